use Rattle.tx_rank.proofs.grade_text.write_bounds.Goals as goal

pub returns-in-Some : goal.returns-in-Some
returns-in-Some g c =
    rw c.in-Some.is
    (rw (
      c.as_bytes-limit.ensures.value,
      c.format.ensures.text,
      c.as_bytes-spare.ensures.value,
      c.format-in-Some.ensures.text,
    ) at c.put_parts.ensures)
