use Rattle.tx_plan.proofs.Common.{◌*◌, ◌%◌, ◌^◌, bit_xor}
use Rattle.tx_plan.specs.inner.Hashing.{hasher_after, product_with_odd}
use Rattle.tx_plan.proofs.ids.WordHasherHasher.write.Goals as goal

pub returns : goal.returns
unfolding hasher_after
returns c = λ i. record { word = bit_xor (bit_xor (product_with_odd c.args.self.now.word) (c.first_word.ensures i)) ((c.ninth.ensures i * 2 ^ 28) % 2 ^ 64) }
