use Rattle.tx_check.proofs.verdict_writer.write_no.Goals as goal

pub returns-in-OriginUnranked : goal.returns-in-OriginUnranked
returns-in-OriginUnranked g c = rw c.in-OriginUnranked.is c.write_exchange.ensures

pub returns-in-TooHigh : goal.returns-in-TooHigh
returns-in-TooHigh g c = rw c.in-TooHigh.is c.write_exchange-in-TooHigh.ensures

pub returns-in-Short : goal.returns-in-Short
returns-in-Short g c = rw c.in-Short.is c.write_exchange-in-Short.ensures

pub returns-in-TargetUnranked : goal.returns-in-TargetUnranked
returns-in-TargetUnranked g c = rw c.in-TargetUnranked.is c.write_group.ensures

pub returns-in-NotLower : goal.returns-in-NotLower
returns-in-NotLower g c = rw c.in-NotLower.is c.write_group-in-NotLower.ensures
