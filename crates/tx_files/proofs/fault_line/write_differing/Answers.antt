use Rattle.tx_files.proofs.fault_line.write_differing.Goals as goal

pub returns : goal.returns
returns g c =
    rw (
      c.as_bytes-old.ensures.value,
      c.format.ensures.text,
      c.as_bytes-new.ensures.value,
      c.format-2.ensures.text,
    ) at c.put_parts.ensures
