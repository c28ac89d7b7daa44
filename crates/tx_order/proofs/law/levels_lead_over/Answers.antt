use Rattle.tx_order.proofs.Common.{refl, levels_of}
use Rattle.tx_order.proofs.Leading.{leads_from, leads_to, by_mixtures, list_switched, bar_switched, each_level}
use Rattle.tx_order.proofs.law.levels_lead_over.Goals as goal

pub returns : goal.returns
returns c = record {
  first = λ old new before after limit. leads_from old new before after limit (λ c. 0) (λ c. refl);
  last = λ old new before after limit spare both. leads_to old new before after limit spare both (λ c. levels_of limit) (λ c h. refl);
  mixtures = λ old new before after limit front ok new_ok same. by_mixtures old new before after limit (λ c. front) ok new_ok same;
  lists = λ old new before after limit spare x c both h. list_switched old new before after limit spare both (λ s c. s) (levels_of limit) (each_level old new before after limit spare both) x c h;
  bars = λ old new before after limit spare x c both h. bar_switched old new before after limit spare both (λ s c. s) (levels_of limit) (each_level old new before after limit spare both) x c h;
}
