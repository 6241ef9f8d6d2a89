-- The lines that calls are written in, as lists of bytes. Assumes nothing.
use Rattle.std.specs.Prelude.{◌≡◌, ℕ, ◌^◌, ◌<◌, ◌⊎◌, ◌↔◌, List, [], ◌∷◌, ◌++◌, length, codes, Option, MatchOption}
use Prim.Native.String.{String}
use Rattle.std.specs.Str.Parse.{AllDigits, digits_value}
use Rattle.runs.specs.Runs.{Call, offer, propose, hold, status}
use Rattle.lines.specs.Calls.{LineMeaning, skipped, asks, no_call}

-- a word is written in eight hexadecimal digits, of either case
pub record Word (digits : List ℕ) (word : ℕ) : Type 0 where
  pub eight : length digits ≡ 8
  pub hexadecimal : AllDigits 16 digits
  pub reads : digits_value 16 digits ≡ word

-- a number is written in decimal digits, with any zeros in front, and is below 2 ^ 32
pub record Number (digits : List ℕ) (number : ℕ) : Type 0 where
  pub some : 0 < length digits
  pub decimal : AllDigits 10 digits
  pub reads : digits_value 10 digits ≡ number
  pub small : number < 2 ^ 32

-- one space, the digits of a value, and what follows them
pub record Field (Writes : List ℕ → ℕ → Type 0) (n : ℕ) (Follows : List ℕ → Type 0) (text : List ℕ) : Type 0 where
  pub digits : List ℕ
  pub rest : List ℕ
  pub spaced : text ≡ codes " " ++ (digits ++ rest)
  pub written : Writes digits n
  pub follows : Follows rest

abbrev pub End : List ℕ → Type 0
End text = text ≡ []

-- what is read of the one field that a text is to be
abbrev pub ReadsField : (List ℕ → ℕ → Type 0) → List ℕ → Option ℕ → Type 0
ReadsField Writes text r = MatchOption r ((n : ℕ) → Field Writes n End text → ⊥) (λ n. Field Writes n End text)

-- a field for each word, and nothing behind them
abbrev pub Words : List ℕ → List ℕ → Type 0
Words [] = End
Words (word ∷ words) = Field Word word (Words words)

-- the name of a call, and its arguments
pub record Named (name : String) (Arguments : List ℕ → Type 0) (text : List ℕ) : Type 0 where
  pub rest : List ℕ
  pub named : text ≡ codes name ++ rest
  pub arguments : Arguments rest

-- the text is a line of the call
abbrev pub LineOf : Call → List ℕ → Type 0
LineOf (offer words) = Named "offer" (Words words)
LineOf (propose room) = Named "propose" (Field Number room End)
LineOf (hold words) = Named "hold" (Words words)
LineOf (status atom) = Named "status" (Field Number atom End)

-- an empty line, or a comment
abbrev pub PassedOver : List ℕ → Type 0
PassedOver text = (text ≡ []) ⊎ ((rest : List ℕ) × (text ≡ codes "#" ++ rest))

-- what is read of a text: each answer exactly if the text is of its kind
pub record Reads (text : List ℕ) (line : LineMeaning) : Type 0 where
  pub passed_over : (line ≡ skipped) ↔ PassedOver text
  pub call : (c : Call) → (line ≡ asks c) ↔ LineOf c text
  pub neither : (line ≡ no_call) ↔ ((PassedOver text → ⊥) × ((c : Call) → LineOf c text → ⊥))
