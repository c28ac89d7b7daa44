use Rattle.tx_cert.proofs.Written.{cert_back}
use Rattle.tx_cert.proofs.round_trip.written_reads_back.Goals as goal

pub returns : goal.returns
returns c = cert_back
