use Rattle.tx_requests.proofs.page_shown.date_at.Goals as goal

pub returns-in-Ok : goal.returns-in-Ok
returns-in-Ok c = (c.in-Ok.date, c.in-Ok.ensures.value, c.to_bytes.ensures)
