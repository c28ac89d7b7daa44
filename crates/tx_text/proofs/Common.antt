-- The names that most proofs here cite, passed on from one place. Declares nothing.
pub use Rattle.std.proofs.Common.{Bool, Err, List, None, Ok, Option, Result, Some, [], ap, append-nil, append_assoc, arith, cond, drop, eqb, false, get_or, inl, inr, length, nat_le, nat_lt, not, refl, rules, subst, suc, sym, take, take-append-drop, tests, true, zero, ℕ, ◌&&◌, ◌++◌, ◌+◌, ◌-◌, ◌<◌, ◌==◌, ◌^◌, ◌||◌, ◌∙◌, ◌∷◌, ◌≡◌, ◌≢◌, ◌≤◌}
pub use Rattle.std.proofs.lemmas.Bool.{and_parts, false≢true, leb-true, lt-ltb, ltb-false, ltb-true}
pub use Rattle.std.proofs.lemmas.Bool.Decides.{nat_tests}
pub use Rattle.std.proofs.lemmas.Iterator.{YieldsList-from_slice}
pub use Rattle.std.proofs.lemmas.Iterator.Search.{position_from_yields_List}
pub use Rattle.std.proofs.lemmas.List.{drop-drop, length-append, length-drop, length-take, length-take-le, take_all, take_more}
pub use Rattle.std.proofs.lemmas.List.Concat.{flat_map-append}
pub use Rattle.std.proofs.lemmas.List.Elements.{All-append, All-nil, All-weaker}
pub use Rattle.std.proofs.lemmas.List.Splits.{slice_split_at, slice_split_none}
pub use Rattle.std.proofs.lemmas.List.Sums.{AllPass-from_list_all, list_all-from_AllPass, prefix_len-le-length}
pub use Rattle.std.specs.Io.KnownBytes.{IsAtEnd, append_known, prepend_known}
pub use Rattle.std.specs.List.{All, AllByRecursion, flat_map, list_all, onto_first, position_or_len, prefix_len, slice_split}
pub use Rattle.std.specs.Result.{is_ok}
pub use Rattle.std.specs.Str.Parse.{digits_value}
pub use Rattle.tx_text.specs.Calls.{Broken, source_calls}
pub use Rattle.tx_text.specs.Ends.{StopsIn}
pub use Rattle.tx_text.specs.Frame.{Done, EndsAs, Framed, Has, Headed, ReadsOn, Stands, Stop, Stopped, header_of, is_read}
pub use Rattle.tx_text.specs.Puts.{Puts}
pub use Rattle.tx_text.specs.Said.{Answered, AnswersAs, DeclaredBy, FaultsBy, RefusedBy, StoppedBy, WantingAt, is_no_room, line_declares, text_said}
pub use Rattle.tx_text.specs.Text.{Line, is_lf, is_text_byte}
pub use Rattle.tx_text.specs.Told.{AtEnd, Closed, Cut, Ending, Faulty, Moves, Then, Told, frame_fault}
pub use Rattle.tx_text.specs.Words.{are_figures, is_blank, is_figure, is_hash}
pub use Rattle.tx_text.specs.Written.{joined, line_written}
pub use Rattle.tx_text.specs.Wrote.{WroteBy}
pub use Rattle.tx_text.specs.declared.feeder.Fed.{Fed}
pub use Rattle.tx_text.specs.declared.frame.FaultKind.{FaultKind}
pub use Rattle.tx_text.specs.declared.frame.FaultKind.TheVariants.{Frame, Word}
pub use Rattle.tx_text.specs.declared.frame.FrameFault.{FrameFault}
pub use Rattle.tx_text.specs.declared.frame.FrameFault.TheVariants.{Read}
pub use Rattle.tx_text.specs.declared.frame.FramePart.{FramePart}
pub use Rattle.tx_text.specs.declared.frame.FramePart.TheVariants.{Body, Ended, Start}
pub use Rattle.tx_text.specs.declared.sink.WriteFault.{WriteFault}
pub use Rattle.tx_text.specs.declared.text_fault.TextFault.{TextFault}
pub use Rattle.tx_text.specs.declared.text_fault.TextFault.TheVariants.{BadByte, LineTooLong}
pub use Rattle.tx_text.specs.inner.CallsLeft.{Calls, Went}
pub use Rattle.tx_text.specs.inner.Feed.{Feed, begun_more, ends_giving, ends_leaving, feed_gives, feed_leaves, feed_with_line, finish_leaves, front_of, gives_by, has_lf, leaves_by, line_fault, piece_fault}
pub use Rattle.tx_text.specs.inner.FrameFields.{frame_of}
pub use Rattle.tx_text.specs.inner.Framing.{FrameReading, IsSound, to_come}
pub use Rattle.tx_text.specs.inner.Reading.{IsFeed, Reading, fed_on, has_line, piece_left, reading_rest, reading_size}
pub use Rattle.tx_text.specs.inner.Written.{IsPlain, IsWord, IsWrittenLine}
