use Rattle.tx_requests.proofs.Printed.{once, plans, warnings, certificates, scripts, risks, dones, refusals, causes, checks, findings, mendings}
use Rattle.tx_requests.proofs.explained.codes_are_explained.Goals as goal

pub returns : goal.returns
returns g c = record {
  once = once;
  plans = plans;
  warnings = warnings;
  certificates = certificates;
  scripts = scripts;
  risks = risks;
  done = dones;
  refusals = refusals;
  causes = causes;
  checks = checks;
  findings = findings _;
  mendings = mendings;
}
