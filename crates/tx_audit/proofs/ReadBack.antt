-- The script that is written for events says these events.
use Rattle.std.proofs.Common.{◌≡◌, ℕ, ◌+◌, List, [], ◌∷◌, ◌++◌, length, codes, refl, ap, ◌∙◌, append_assoc, arith}
use Rattle.tx_audit.proofs.Common.{flat_map, AllByRecursion, Plan, IsPlan, Event}
use Rattle.tx_text.specs.declared.frame.FramePart.TheVariants.{Body}
use Rattle.tx_text.specs.Text.{lines_from}
use Rattle.tx_text.specs.Told.{AtEnd, told}
use Rattle.tx_text.specs.Frame.{header_of, framed}
use Rattle.tx_text.specs.Written.{joined}
use Rattle.tx_text.specs.inner.Written.{IsWrittenLine}
use Rattle.tx_text.proofs.ReadBack.{has_back, head_back, end_back}
use Rattle.tx_text.proofs.WrittenWords.{line_of_short, fixed_word}
use Rattle.tx_script.specs.Events.{event_words, event_text, IsWritable}
use Rattle.tx_script.specs.Script.{whole, after_events, line_said, script_said, script_of}
use Rattle.tx_script.proofs.EventLines.{words_back}
use Rattle.tx_audit.specs.Scripts.{script_written}

-- the lines of events, and END
abbrev body : Plan → List Event → List ℕ
body p events = flat_map (event_text p) events ++ codes "END\n"

-- the words of the header
abbrev head : List (List ℕ)
head = codes "SCRIPT" ∷ codes "1" ∷ []

head_written : IsWrittenLine head
head_written = line_of_short head (fixed_word (codes "SCRIPT") refl, (fixed_word (codes "1") refl, tt)) (omega arith)

module _ (p : Plan) (ok : IsPlan p) where
  body_back : (n s : ℕ) (events : List Event) → AllByRecursion (IsWritable p) events → script_said p (framed (header_of (codes "SCRIPT") 1) Body n (told AtEnd (lines_from n s (body p events)))) ≡ whole events
  unfolding script_said
  body_back n s [] w = ap (script_said p) (end_back (header_of (codes "SCRIPT") 1) n s)
  body_back n s (e ∷ events) w =
      let ws = event_words p e in
      let l = words_back p ok e w.0.0 w.0.1 in
      let after = s + length (joined ws) + 1 in
      let cut : body p (e ∷ events) ≡ joined ws ++ 10 ∷ body p events = append_assoc (event_text p e) (flat_map (event_text p) events) (codes "END\n") ∙ append_assoc (joined ws) (10 ∷ []) (body p events) in
      ap (λ (t : List ℕ). script_said p (framed (header_of (codes "SCRIPT") 1) Body n (told AtEnd (lines_from n s t)))) cut
      ∙ ap (script_said p) (has_back (header_of (codes "SCRIPT") 1) AtEnd n s ws (body p events) l.written l.some l.no_end)
      ∙ ap (λ r. line_said n r (script_said p (framed (header_of (codes "SCRIPT") 1) Body (n + 1) (told AtEnd (lines_from (n + 1) after (body p events)))))) l.says
      ∙ ap (after_events (e ∷ [])) (body_back (n + 1) after events w.1)

  pub scripts_back : (events : List Event) → AllByRecursion (IsWritable p) events → script_of p AtEnd (script_written p events) ≡ whole events
  unfolding script_said
  scripts_back events w =
      ap (script_said p) (head_back (header_of (codes "SCRIPT") 1) AtEnd 1 0 1 head (body p events) head_written (omega arith) refl)
      ∙ body_back 2 (0 + length (joined head) + 1) events w
