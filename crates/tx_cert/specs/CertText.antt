-- Certificate texts: what each line says, and what is written.
use Rattle.std.specs.Prelude.{◌≡◌, ℕ, Bool, true, false, List, [], ◌∷◌, ◌++◌, length, Option, None, Some, Result, Ok, Err, codes, if◌then◌else◌}
use Rattle.std.specs.Fmt.{decimal}
use Rattle.std.specs.List.{flat_map, range_with_len}
use Rattle.std.specs.Str.{bytes_eq}
use Rattle.std.specs.Io.KnownBytes.{IsAtEnd}
use Rattle.tx_text.specs.declared.frame.FaultKind.{FaultKind}
use Rattle.tx_text.specs.Ends.{Input}
use Rattle.tx_text.specs.Words.{number_of}
use Rattle.tx_text.specs.Told.{Ending, AtEnd}
use Rattle.tx_text.specs.Written.{line_written}
use Rattle.tx_text.specs.Frame.{EndsAs}
use Rattle.tx_text.specs.Said.{text_said, Answered}
use Rattle.tx_plan.specs.Plan.{Plan, exchange_named, code_named, exchange_name, figures_of}
use Rattle.tx_plan.specs.Rules.{IsPlan}
use Rattle.tx_cert.specs.declared.fault.CertWord.{CertWord}
use Rattle.tx_cert.specs.declared.fault.CertWord.TheVariants.{UnknownWord, WrongCount, UnknownName, BadNumber, Duplicate, NoMemory}
use Rattle.tx_cert.specs.Certificate.{Certificate, no_ranks_for, rank_at, with_rank, IsCertificateOf}

-- a rank for a pair that has none yet
abbrev pub ranked_by : Certificate → ℕ → ℕ → Option ℕ → ℕ → Result Certificate CertWord
ranked_by t code exchange None rank = Ok (with_rank t code exchange rank)
ranked_by t code exchange (Some r) rank = Err Duplicate

-- the code and the exchange of a line, and its rank, each if the word is one
abbrev pub rank_said : Certificate → Option ℕ → Option ℕ → Option ℕ → Result Certificate CertWord
rank_said t None exchange rank = Err UnknownName
rank_said t (Some code) None rank = Err UnknownName
rank_said t (Some code) (Some exchange) None = Err BadNumber
rank_said t (Some code) (Some exchange) (Some rank) =
    ranked_by t code exchange (rank_at t code exchange) rank

-- the words after RANK: a code, an exchange and a rank
abbrev pub rank_line : Plan → Certificate → List (List ℕ) → Result Certificate CertWord
rank_line p t [] = Err WrongCount
rank_line p t (code ∷ []) = Err WrongCount
rank_line p t (code ∷ exchange ∷ []) = Err WrongCount
rank_line p t (code ∷ exchange ∷ rank ∷ []) =
    rank_said t (code_named p code) (exchange_named p exchange) (number_of 65535 rank)
rank_line p t (code ∷ exchange ∷ rank ∷ w ∷ ws) = Err WrongCount

-- What a line adds to the ranks of the lines before it. There is one version of these texts. A line
-- of more words that begins with END has too many.
unfoldable pub declare : Plan → ℕ → Certificate → List (List ℕ) → Result Certificate CertWord
declare p v t [] = Err UnknownWord
declare p v t (w ∷ ws) = if bytes_eq w (codes "RANK")
    then rank_line p t ws else if bytes_eq w (codes "END") then Err WrongCount else Err UnknownWord

-- the certificate that a text says for a plan, or its first fault, whichever way the text ends
abbrev pub cert_of : Plan → Ending → List ℕ → Result Certificate (ℕ × FaultKind CertWord)
cert_of p = text_said (declare p) (codes "CERT") 1 (no_ranks_for p)

-- no memory was left
abbrev pub is_memory : CertWord → Bool
is_memory NoMemory = true
is_memory w = false

-- the whole text that was read says this certificate of the plan
abbrev pub SaysCert : Plan → Input → Certificate → Type 0
SaysCert p text t = EndsAs text.old text.new (cert_of p) AtEnd (Ok t) × IsAtEnd text.new

-- What a reader of certificate texts answers. Memory can run out only before anything is read.
abbrev pub ReadsCert : Plan → Input → Result Certificate (ℕ × FaultKind CertWord) → Type 0
ReadsCert p text result =
    Answered is_memory text.old text.new (cert_of p) text.broken text.unread
    (λ n. (n ≡ 1) × text.unread) result

-- the line of an exchange that is ranked for a code, and no line of one that isn't
abbrev pub rank_lines : Plan → ℕ → ℕ → Option ℕ → List (List (List ℕ))
rank_lines p code exchange None = []
rank_lines p code exchange (Some rank) =
    (codes "RANK" ∷ figures_of p code ∷ exchange_name p exchange ∷ decimal rank ∷ []) ∷ []

-- the lines of some exchanges for a code
abbrev pub code_lines : Plan → Certificate → ℕ → List ℕ → List (List (List ℕ))
code_lines p t code exchanges = flat_map (λ x. rank_lines p code x (rank_at t code x)) exchanges

-- the ranks by codes and then by exchanges, each in order of declaration
abbrev pub cert_lines : Plan → Certificate → List (List (List ℕ))
cert_lines p t = flat_map (λ c. code_lines p t c (range_with_len 0 (length p.exchanges)))
    (range_with_len 0 (length p.codes))

-- the header, the lines of the ranks and END, each with an LF after it
abbrev pub cert_written : Plan → Certificate → List ℕ
cert_written p t = line_written (codes "CERT" ∷ codes "1" ∷ [])
    ++ (flat_map line_written (cert_lines p t) ++ codes "END\n")

-- what is written for a certificate of a plan says that certificate
abbrev pub ReadsBack : Type 0
ReadsBack = (p : Plan) (t : Certificate) → IsPlan p
    → IsCertificateOf p t → cert_of p AtEnd (cert_written p t) ≡ Ok t
