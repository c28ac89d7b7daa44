-- Reading a certificate text.
use Rattle.std.proofs.Common.{◌≡◌, ℕ, List, [], ◌∷◌, Option, None, Some, Result, Ok, Err, IfOk, IfErr, Bool, true, false, codes, refl, ◌∙◌, subst, inl, inr}
use Rattle.tx_cert.proofs.Common.{if◌then◌else◌, Plan, CertWord, Certificate, no_ranks_for, rank_at}
use Rattle.std.specs.Str.{bytes_eq}
use Rattle.tx_text.specs.declared.frame.FaultKind.{FaultKind}
use Rattle.tx_text.specs.declared.frame.FaultKind.TheVariants.{Frame, Word}
use Rattle.tx_text.specs.Ends.{Input}
use Rattle.tx_text.specs.Told.{Ending, AtEnd}
use Rattle.tx_text.specs.Frame.{Framed, Done, Stop, Headed, Has, Stands}
use Rattle.tx_text.specs.Said.{said, step_on, Declared, lines_within, ReadsText, AnswersAs, RefusedBy, FaultsBy}
use Rattle.tx_plan.proofs.Lists.{opposed}
use Rattle.tx_cert.specs.declared.fault.CertWord.TheVariants.{UnknownWord, WrongCount}
use Rattle.tx_cert.specs.CertText.{declare, ranked_by, rank_said, rank_line, cert_of, is_memory, ReadsCert}

-- there is one version of these texts
pub any_version : (p : Plan) (v w : ℕ) (t : Certificate) (ws : List (List ℕ)) → declare p v t ws ≡ declare p w t ws
unfolding declare
any_version p v w t [] = refl
any_version p v w t (x ∷ ws) = refl

-- what a line declares, by the clauses of the code
pub line_declared : (p : Plan) (v : ℕ) (t new : Certificate) (ws : List (List ℕ)) (r : Result (Unit {0}) CertWord) → IfOk r (λ _. declare p 1 t ws ≡ Ok new) → IfErr r (λ x. declare p 1 t ws ≡ Err x) → Declared (λ (x : CertWord). false) (declare p v t ws) new r
line_declared p v t new ws (Ok x) ok err = any_version p v 1 t ws ∙ ok
line_declared p v t new ws (Err x) ok err = any_version p v 1 t ws ∙ err

-- no line takes memory
abbrev NotMemory : Result Certificate CertWord → Type 0
NotMemory (Ok t) = Unit {0}
NotMemory (Err x) = is_memory x ≡ false

ranked_by_none : (t : Certificate) (code exchange : ℕ) (o : Option ℕ) (rank : ℕ) → NotMemory (ranked_by t code exchange o rank)
ranked_by_none t code exchange None rank = tt
ranked_by_none t code exchange (Some r) rank = refl

rank_said_none : (t : Certificate) (code exchange rank : Option ℕ) → NotMemory (rank_said t code exchange rank)
rank_said_none t None exchange rank = refl
rank_said_none t (Some code) None rank = refl
rank_said_none t (Some code) (Some exchange) None = refl
rank_said_none t (Some code) (Some exchange) (Some rank) = ranked_by_none t code exchange (rank_at t code exchange) rank

rank_line_none : (p : Plan) (t : Certificate) (ws : List (List ℕ)) → NotMemory (rank_line p t ws)
rank_line_none p t [] = refl
rank_line_none p t (code ∷ []) = refl
rank_line_none p t (code ∷ exchange ∷ []) = refl
rank_line_none p t (code ∷ exchange ∷ rank ∷ []) = rank_said_none t _ _ _
rank_line_none p t (code ∷ exchange ∷ rank ∷ w ∷ ws) = refl

declare_none : (p : Plan) (v : ℕ) (t : Certificate) (ws : List (List ℕ)) → NotMemory (declare p v t ws)
unfolding declare
declare_none p v t [] = refl
declare_none p v t (w ∷ ws) =
    elim (bytes_eq w (codes "RANK")) as (λ b. NotMemory (if b then rank_line p t ws else if bytes_eq w (codes "END") then Err WrongCount else Err UnknownWord)) [
      | true ↦ rank_line_none p t ws
      | false ↦ elim (bytes_eq w (codes "END")) as (λ b. NotMemory (if b then Err WrongCount else Err UnknownWord)) [ true ↦ refl | false ↦ refl ]
    ]

-- so no text says that memory ran out
abbrev NotMemoryAt : Result Certificate (ℕ × FaultKind CertWord) → Type 0
NotMemoryAt (Ok t) = Unit {0}
NotMemoryAt (Err (n, Frame k)) = Unit {0}
NotMemoryAt (Err (n, Word x)) = is_memory x ≡ false

step_none : (p : Plan) (v n : ℕ) (f : Framed) → ((r : Certificate) → NotMemoryAt (said (declare p) v r f)) → (o : Result Certificate CertWord) → NotMemory o → NotMemoryAt (step_on (declare p) n o (λ r. said (declare p) v r f))
step_none p v n f h (Ok r) k = h r
step_none p v n f h (Err x) k = k

said_none : (p : Plan) (v : ℕ) (t : Certificate) (f : Framed) → NotMemoryAt (said (declare p) v t f)
unfolding said
said_none p v t Done = tt
said_none p v t (Stop n k) = tt
said_none p v t (Headed w f) = said_none p w t f
said_none p v t (Has n ws f) = step_none p v n f (λ r. said_none p v r f) (declare p v t ws) (declare_none p v t ws)

never : (p : Plan) (e : Ending) (text : List ℕ) (n : ℕ) (x : CertWord) → cert_of p e text ≡ Err (n, Word x) → is_memory x ≡ true → ⊥
never p e text n x h m =
    let k : NotMemoryAt (cert_of p e text) = said_none p 1 (no_ranks_for p) (lines_within (codes "CERT") 1 e text) in
    opposed (is_memory x) m (subst NotMemoryAt h k)

module _ (p : Plan) where
  refused : (text : Input) (b : Bool) (n : ℕ) (x : CertWord) → is_memory x ≡ b → Stands text.old text.new (cert_of p) (Err (n, Word x)) → RefusedBy text.old text.new (cert_of p) (λ m. (m ≡ 1) × text.unread) b n x
  refused text true n x m (inl h) = absurd (never p AtEnd _ n x (h.gives AtEnd []) m)
  refused text true n x m (inr h) = absurd (never p AtEnd _ n x h.0.gives m)
  refused text false n x m h = h

  -- what was read, where only a line's words were told by the lines
  pub reads_cert : (text : Input) (r : Result Certificate (ℕ × FaultKind CertWord)) → ReadsText (declare p) (λ x. false) (codes "CERT") 1 (no_ranks_for p) text r → ReadsCert p text r
  reads_cert text (Ok t) a = a
  reads_cert text (Err (n, Frame k)) a = a
  reads_cert text (Err (n, Word x)) a = refused text (is_memory x) n x refl a

  slice_refused : (text : List ℕ) (b : Bool) (n : ℕ) (x : CertWord) → is_memory x ≡ b → cert_of p AtEnd text ≡ Err (n, Word x) → FaultsBy (cert_of p AtEnd text) (n ≡ 1) b n (Word x)
  slice_refused text true n x m h = absurd (never p AtEnd text n x h m)
  slice_refused text false n x m h = h

  pub slice_says : (text : List ℕ) (wanted : ℕ → Type 0) (r : Result Certificate (ℕ × FaultKind CertWord)) → AnswersAs (λ (x : CertWord). false) (cert_of p AtEnd text) wanted r → AnswersAs is_memory (cert_of p AtEnd text) (λ n. n ≡ 1) r
  slice_says text wanted (Ok t) a = a
  slice_says text wanted (Err (n, Frame k)) a = a
  slice_says text wanted (Err (n, Word x)) a = slice_refused text (is_memory x) n x refl a
