-- Why commands stop.
use Rattle.std.specs.Prelude.{ℕ, Bool, true, Result, Err}
use Rattle.tx_text.specs.declared.frame.FaultAt.{FaultAt}
use Rattle.tx_text.specs.declared.frame.FrameFault.TheVariants.{Read as LineRead, NoMemory as LineNoMemory}
use Rattle.tx_text.specs.declared.frame.FaultKind.{FaultKind}
use Rattle.tx_text.specs.declared.frame.FaultKind.TheVariants.{Frame, Word}
use Rattle.tx_plantext.specs.declared.fault.PlanWord.{PlanWord}
use Rattle.tx_order.specs.declared.done.DoneWord.{DoneWord}
use Rattle.tx_order.specs.declared.done.DoneWord.TheVariants.{NoMemory as DoneNoMemory}
use Rattle.tx_risk.specs.declared.fault.RiskWord.{RiskWord}
use Rattle.tx_risk.specs.declared.fault.RiskWord.TheVariants.{NoMemory as RiskNoMemory}
use Rattle.tx_text.specs.declared.whole_text.WholeTextFault.{WholeTextFault}
use Rattle.tx_text.specs.declared.whole_text.WholeTextFault.TheVariants.{Read as TextRead, NoMemory as TextNoMemory}
use Rattle.tx_jobs.specs.declared.job_fault.JobFault.{JobFault}
use Rattle.tx_jobs.specs.declared.job_fault.JobFault.TheVariants.{Plan, Read, Write, NoMemory}
use Rattle.tx_jobs.specs.JobFaults.{plan_fault, status_of}
use Rattle.tx_files.specs.declared.two_plans.Which.{Which}
use Rattle.tx_files.specs.declared.two_plans.Which.TheVariants.{This, Old, New}
use Rattle.tx_files.specs.declared.fault.CommandFault.{CommandFault}
use Rattle.tx_files.specs.declared.fault.CommandFault.TheVariants.{Job, OldPlan, NewPlan, Contradiction, TooManyTogether, Risks, Done}

-- the exit status: that of a job; 2 for a refused text and for plans that have no joined network;
-- and 64 for what the plan does not have of what is asked for by names, and for a stage that the
-- order does not have
abbrev pub fault_status : CommandFault → ℕ
fault_status (Job f) = status_of f
fault_status (OldPlan f) = 2
fault_status (NewPlan f) = 2
fault_status (Contradiction c) = 2
fault_status TooManyTogether = 2
fault_status (Risks f) = 2
fault_status (Done f) = 2
fault_status other = 64

-- memory ran out
abbrev pub memory_stop : CommandFault
memory_stop = Job NoMemory

-- the output failed
abbrev pub write_stop : CommandFault
write_stop = Job Write

-- a fault of the text of the one plan
abbrev pub plan_stop : FaultAt PlanWord → CommandFault
plan_stop f = Job (plan_fault f)

-- a fault of the text of risks, by its kind
abbrev pub risks_stop_by : FaultAt RiskWord → FaultKind RiskWord → CommandFault
risks_stop_by f (Frame LineRead) = Job Read
risks_stop_by f (Frame LineNoMemory) = Job NoMemory
risks_stop_by f (Word RiskNoMemory) = Job NoMemory
risks_stop_by f k = Risks f

-- a fault of the text of risks
abbrev pub risks_stop : FaultAt RiskWord → CommandFault
risks_stop f = risks_stop_by f f.kind

-- a fault of the text of what is done, by its kind
abbrev pub done_stop_by : FaultAt DoneWord → FaultKind DoneWord → CommandFault
done_stop_by f (Frame LineRead) = Job Read
done_stop_by f (Frame LineNoMemory) = Job NoMemory
done_stop_by f (Word DoneNoMemory) = Job NoMemory
done_stop_by f k = Done f

-- a fault of the text of what is done
abbrev pub done_stop : FaultAt DoneWord → CommandFault
done_stop f = done_stop_by f f.kind

-- why a text was not read to its end
abbrev pub text_stop : WholeTextFault → CommandFault
text_stop TextRead = Job Read
text_stop TextNoMemory = Job NoMemory

-- a fault of one of two plans, by which of them it is
abbrev pub told_of : Which → FaultAt PlanWord → CommandFault
told_of This f = Job (Plan f)
told_of Old f = OldPlan f
told_of New f = NewPlan f

-- a failure to read and a lack of memory are the same of each
abbrev pub in_plan_by : Which → JobFault → CommandFault
in_plan_by which (Plan f) = told_of which f
in_plan_by which other = Job other

-- a fault of the text of this plan
abbrev pub in_plan : Which → FaultAt PlanWord → CommandFault
in_plan which f = in_plan_by which (plan_fault f)

-- the mark of the sink after a call: set where the output failed
abbrev pub fault_mark : {X : Type 0} → Bool → Result X CommandFault → Bool
fault_mark old (Err (Job Write)) = true
fault_mark old result = old
