-- What goes into the files that a command makes.
use Rattle.std.specs.Prelude.{◌≡◌, ◌⊎◌, ℕ, Bool, true, false, List, [], ◌∷◌, Option, None, Some, option_map}
use Rattle.tx_plan.specs.Plan.{Plan}
use Rattle.tx_plantext.specs.PlanWritten.{plan_written}
use Rattle.tx_cert.specs.CertText.{cert_written}
use Rattle.tx_machine.specs.declared.event.Event.{Event}
use Rattle.tx_audit.specs.Scripts.{script_written}
use Rattle.tx_plantext.specs.Revised.{SaysAs, SameLinesStand}
use Rattle.tx_files.specs.declared.made.Shown.{Shown}
use Rattle.tx_files.specs.declared.made.Shown.TheVariants.{Plan as PlanAlone, Script as WithScript}
use Rattle.tx_files.specs.declared.made.MadeText.{MadeText}
use Rattle.tx_files.specs.declared.made.MadeText.TheVariants.{Revised, Written}
use Rattle.tx_files.specs.declared.made.Made.{Made}
use Rattle.tx_files.specs.declared.content.Content.{Content}
use Rattle.tx_files.specs.declared.content.Content.TheVariants.{Text, Plan as PlanText, Cert, Script}

module _ {A : Type 0} where
  -- the text of a plan, of a certificate or of a script
  abbrev pub content_text : Content A → List ℕ
  content_text (Text text) = text.now
  content_text (PlanText p) = plan_written p.now
  content_text (Cert p cert) = cert_written p.now cert.now
  content_text (Script s) = script_written s.now.plan s.now.events.items

  -- the plan
  abbrev pub shown_plan : Shown A → Plan
  shown_plan (PlanAlone p) = p
  shown_plan (WithScript s) = s.plan

  -- the events of its script, if it has one
  abbrev pub shown_events : Shown A → Option (List Event)
  shown_events (PlanAlone p) = None
  shown_events (WithScript s) = Some s.events.items

  -- the text of a plan that was made
  abbrev pub text_of : Plan → MadeText A → List ℕ
  text_of p (Revised text) = text.items
  text_of p Written = plan_written p

  -- if it was
  abbrev pub plan_file : Plan → Option (MadeText A) → Option (List ℕ)
  plan_file p text = option_map (text_of p) text

  -- the texts that go into files: of the plan, of the certificate and of the script
  abbrev pub made_texts : Made A → List (Option (List ℕ))
  made_texts m = plan_file (shown_plan m.shown) m.text
      ∷ option_map (cert_written (shown_plan m.shown)) m.cert
      ∷ option_map (script_written (shown_plan m.shown)) (shown_events m.shown) ∷ []

  -- those of an end, if anything goes into files
  abbrev pub texts_of : Option (Made A) → List (Option (List ℕ))
  texts_of None = None ∷ None ∷ None ∷ []
  texts_of (Some m) = made_texts m

-- The text of a plan that was made of the plan of a text: that text, revised, in which the lines
-- that say the same stand, or the plan as it is written. Either way it says the plan that was made.
pub record IsTextOfMade (text : List ℕ) (made : Plan) (found : List ℕ) : Type 0 where
  pub says : SaysAs made found
  pub kept : SameLinesStand text made found ⊎ (found ≡ plan_written made)

-- there is that text, if it is asked for
abbrev pub HasTextIf : (asked : Bool) → List ℕ → (made : Plan) → Option (List ℕ) → Type 0
HasTextIf true text made None = ⊥
HasTextIf true text made (Some found) = IsTextOfMade text made found
HasTextIf false text made found = found ≡ None
