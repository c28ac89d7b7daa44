use Rattle.tx_requests.proofs.page.show_page.Goals as goal

pub returns : goal.returns
returns g c = (c.subject_of-subject.result, c.subject_of-subject.ensures, c.write_page.ensures)
