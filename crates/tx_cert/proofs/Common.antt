-- The names that most proofs here cite, passed on from one place. Declares nothing.
pub use Rattle.std.proofs.Common.{Bool, Err, List, None, Ok, Option, Result, Some, [], ap, arith, codes, cond, false, inl, inr, length, nat_lt, refl, replicate, rules, subst, suc, sym, true, zero, ℕ, ◌*◌, ◌++◌, ◌+◌, ◌<◌, ◌∙◌, ◌∷◌, ◌≡◌, ◌≢◌, ◌≤◌, ◌⊎◌}
pub use Rattle.std.proofs.lemmas.Nat.{mul-add-lt, same_from_place}
pub use Rattle.std.specs.FinMap.{get-empty, get-insert}
pub use Rattle.std.specs.List.{flat_map, range_with_len}
pub use Rattle.std.specs.Ordering.{eq_by_cmp}
pub use Rattle.std.specs.Prelude.{if◌then◌else◌}
pub use Rattle.tx_cert.specs.CertText.{code_lines, rank_line}
pub use Rattle.tx_cert.specs.Certificate.{Certificate, IsCertificate, IsCertificateOf, Pair, no_ranks, no_ranks_for, pair_cmp, rank_at, with_rank}
pub use Rattle.tx_cert.specs.declared.fault.CertWord.{CertWord}
pub use Rattle.tx_cert.specs.declared.fault.CertWord.TheVariants.{WrongCount}
pub use Rattle.tx_cert.specs.inner.Table.{Table, certificate_of, index_of}
pub use Rattle.tx_plan.specs.Plan.{Plan}
pub use Rattle.tx_text.proofs.Exits.{exits_with}
pub use Rattle.tx_text.proofs.Ranges.{lines_more}
pub use Rattle.tx_text.specs.Puts.{Puts}
pub use Rattle.tx_text.specs.Said.{Declared}
pub use Rattle.tx_text.specs.Told.{AtEnd}
pub use Rattle.tx_text.specs.Written.{line_written}
