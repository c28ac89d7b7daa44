use Rattle.tx_join.proofs.list_counts.write_counts.Goals as goal

pub returns : goal.returns
returns g c =
    rw (
      c.as_bytes-all.ensures.value,
      c.format.ensures.text,
      c.as_bytes-put.ensures.value,
      c.format-2.ensures.text,
      c.as_bytes-changed.ensures.value,
      c.format-3.ensures.text,
      c.as_bytes-gone.ensures.value,
      c.format-4.ensures.text,
    ) at c.put_parts.ensures
