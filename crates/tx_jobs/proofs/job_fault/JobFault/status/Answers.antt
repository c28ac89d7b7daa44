use Rattle.std.proofs.Common.{rules}
use Rattle.tx_jobs.proofs.job_fault.JobFault.status.Goals as goal

pub returns-in-Plan : goal.returns-in-Plan
returns-in-Plan c = search rules
