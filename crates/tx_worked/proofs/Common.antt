-- The names that most proofs here cite, passed on from one place. Declares nothing.
pub use Rattle.std.proofs.Common.{Bor, List, [], ap, false, refl, true, w64, ℕ, ◌+◌, ◌<◌, ◌^◌, ◌∷◌, ◌≡◌}
pub use base.Fml.{Lft, Share, flft, fsep, ftrue}
pub use base.Logic.{SProp, ent, id⊢}
pub use contract.BorrowLft.{⊑_trans, ◌⊑◌}
pub use contract.Monad.{Fun, fact}
pub use denote.Exit.{yes}
pub use denote.Opens.{unhide}
pub use denote.Param.{bounded, param}
pub use denote.Plain.{uint_Tells, uint_vals}
pub use denote.RattleType.{owns}
pub use denote.RawPtr.{block_ptr}
pub use denote.Ref.{shr_vals}
pub use denote.Signature.{Slot, plain, types_at}
pub use denote.Steps.{heard, nothing, only}
pub use denote.Triple.Call.{calls_at}
pub use denote.Triple.Clauses.{Clauses, Ended}
pub use denote.Triple.Spec.{triple_of}
pub use denote.Triple.Statement.{Triple}
pub use denote.Triple.Table.{entered}
pub use denote.Triple.Walked.{Goes-dropped, Stays, ends_at, stay_dropped, walk_Meets, walk_of, walked}
pub use mir.MapTy.{inst_fn}
pub use mir.Syntax.{Args, Fn, Ty, a_type, dcons, dnil}
pub use mir.Val.{Val, vint, vptr, vunit}
pub use prog.Memory.{Memory, align, capped, size, up}
pub use prog.Routine.{Routine}
pub use prog.Wp.{Tables, WpFn}
pub use seplogic.Ra.Ura.{Ura}
pub use sound.WpLaws.{WpFn-mono, fm_of}
pub use types.ByLocal.{alloc_all, free_all, get, lands_as, look_at, pass_all, sets, through}
pub use types.Logic.{Logic}
pub use types.Run.{addr, and_then, enter, fld, no_more, of_opd, returns, stop}
