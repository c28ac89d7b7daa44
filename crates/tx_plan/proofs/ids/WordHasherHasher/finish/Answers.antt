use Rattle.std.proofs.Common.{◌*◌, ◌/◌, ◌^◌}
use Rattle.std.specs.Prelude.{bit_and, bit_xor}
use Rattle.tx_plan.specs.inner.Hashing.{spread, product_with_odd}
use Rattle.tx_plan.proofs.ids.WordHasherHasher.finish.Goals as goal

pub returns : goal.returns
unfolding spread
returns c = λ i. bit_and (bit_xor (c.from.ensures i * c.from-2.ensures i / 2 ^ 64) (bit_and (product_with_odd c.args.self.now.word / 2 ^ 32) 0xff00_0000)) 0xffff_ffff
