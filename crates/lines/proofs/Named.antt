-- Which call a line is of is determined, by its name and its arguments. Assumes nothing.
use Rattle.std.proofs.Common.{◌≡◌, ℕ, ◌<◌, List, ◌++◌, get_or, codes, sym, refl, ap, ◌∙◌, subst, arith}
use Prim.Native.String.{String}
use Rattle.std.specs.Str.Parse.{digits_value}
use Rattle.std.proofs.lemmas.List.{append-nil, append_cancel_left}
use Rattle.runs.specs.Runs.{Call, offer, propose, hold, status}
use Rattle.lines.specs.Lines.{Number, Field, End, Words, Named, LineOf}
use Rattle.lines.proofs.Spaced.{words_only}

-- the letter that its name begins with
abbrev letter : Call → ℕ
letter (offer words) = 111
letter (propose room) = 112
letter (hold words) = 104
letter (status atom) = 115

after_name : (name : String) {Arguments : List ℕ → Type 0} {text fields : List ℕ} → text ≡ codes name ++ fields → Named name Arguments text → Arguments fields
after_name name {Arguments} {text} {fields} e l = subst Arguments (append_cancel_left (codes name) l.rest fields (sym l.named ∙ e)) l.arguments

-- the digits are all that stands behind the space
alone : {n : ℕ} {text : List ℕ} (f : Field Number n End text) → text ≡ codes " " ++ f.digits
alone f = f.spaced ∙ ap (λ xs. codes " " ++ (f.digits ++ xs)) f.follows ∙ ap (λ xs. codes " " ++ xs) (append-nil f.digits)

number_only : {m n : ℕ} {text : List ℕ} → Field Number m End text → Field Number n End text → n ≡ m
number_only e f = sym f.written.reads ∙ ap (digits_value 10) (append_cancel_left (codes " ") f.digits e.digits (sym (alone f) ∙ alone e)) ∙ e.written.reads

module _ (text : List ℕ) where
  begins : (c : Call) → LineOf c text → get_or text 0 0 ≡ letter c
  begins (offer words) l = ap (λ xs. get_or xs 0 0) l.named
  begins (propose room) l = ap (λ xs. get_or xs 0 0) l.named
  begins (hold words) l = ap (λ xs. get_or xs 0 0) l.named
  begins (status atom) l = ap (λ xs. get_or xs 0 0) l.named

  -- above the code of a number sign
  pub begins_late : (c : Call) → LineOf c text → 35 < get_or text 0 0
  begins_late (offer words) l = omega (arith, begins (offer words) l)
  begins_late (propose room) l = omega (arith, begins (propose room) l)
  begins_late (hold words) l = omega (arith, begins (hold words) l)
  begins_late (status atom) l = omega (arith, begins (status atom) l)

  apart : {xs : List ℕ} (c : Call) → text ≡ xs → (get_or xs 0 0 ≡ letter c → ⊥) → LineOf c text → ⊥
  apart c e other l = other (sym (ap (λ ys. get_or ys 0 0) e) ∙ begins c l)

  pub only_offer : (fields : List ℕ) → text ≡ codes "offer" ++ fields → (c : Call) → LineOf c text → (words : List ℕ) × (c ≡ offer words) × Words words fields
  only_offer fields e (offer words) l = (words, refl, after_name "offer" e l)
  only_offer fields e (propose room) l = absurd (apart (propose room) e (λ z. omega arith) l)
  only_offer fields e (hold words) l = absurd (apart (hold words) e (λ z. omega arith) l)
  only_offer fields e (status atom) l = absurd (apart (status atom) e (λ z. omega arith) l)

  pub only_propose : (fields : List ℕ) → text ≡ codes "propose" ++ fields → (c : Call) → LineOf c text → (room : ℕ) × (c ≡ propose room) × Field Number room End fields
  only_propose fields e (offer words) l = absurd (apart (offer words) e (λ z. omega arith) l)
  only_propose fields e (propose room) l = (room, refl, after_name "propose" e l)
  only_propose fields e (hold words) l = absurd (apart (hold words) e (λ z. omega arith) l)
  only_propose fields e (status atom) l = absurd (apart (status atom) e (λ z. omega arith) l)

  pub only_hold : (fields : List ℕ) → text ≡ codes "hold" ++ fields → (c : Call) → LineOf c text → (words : List ℕ) × (c ≡ hold words) × Words words fields
  only_hold fields e (offer words) l = absurd (apart (offer words) e (λ z. omega arith) l)
  only_hold fields e (propose room) l = absurd (apart (propose room) e (λ z. omega arith) l)
  only_hold fields e (hold words) l = (words, refl, after_name "hold" e l)
  only_hold fields e (status atom) l = absurd (apart (status atom) e (λ z. omega arith) l)

  pub only_status : (fields : List ℕ) → text ≡ codes "status" ++ fields → (c : Call) → LineOf c text → (atom : ℕ) × (c ≡ status atom) × Field Number atom End fields
  only_status fields e (offer words) l = absurd (apart (offer words) e (λ z. omega arith) l)
  only_status fields e (propose room) l = absurd (apart (propose room) e (λ z. omega arith) l)
  only_status fields e (hold words) l = absurd (apart (hold words) e (λ z. omega arith) l)
  only_status fields e (status atom) l = (atom, refl, after_name "status" e l)

  pub line_only : (c d : Call) → LineOf c text → LineOf d text → d ≡ c
  line_only (offer words) d l m = let o = only_offer l.rest l.named d m in o.1 ∙ ap offer (words_only words o.0 l.rest l.arguments o.2)
  line_only (propose room) d l m = let o = only_propose l.rest l.named d m in o.1 ∙ ap propose (number_only l.arguments o.2)
  line_only (hold words) d l m = let o = only_hold l.rest l.named d m in o.1 ∙ ap hold (words_only words o.0 l.rest l.arguments o.2)
  line_only (status atom) d l m = let o = only_status l.rest l.named d m in o.1 ∙ ap status (number_only l.arguments o.2)

  -- the text begins with no name
  abbrev pub NotNamed : String → Type 0
  NotNamed name = (rest : List ℕ) → text ≡ codes name ++ rest → ⊥

  pub no_name : NotNamed "offer" → NotNamed "propose" → NotNamed "hold" → NotNamed "status" → (c : Call) → LineOf c text → ⊥
  no_name no_offer no_propose no_hold no_status (offer words) l = no_offer l.rest l.named
  no_name no_offer no_propose no_hold no_status (propose room) l = no_propose l.rest l.named
  no_name no_offer no_propose no_hold no_status (hold words) l = no_hold l.rest l.named
  no_name no_offer no_propose no_hold no_status (status atom) l = no_status l.rest l.named
