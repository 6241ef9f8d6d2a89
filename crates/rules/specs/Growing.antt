-- A program with one rule or one literal more, and what may not be added. Assumes nothing.
use Rattle.std.specs.Prelude.{◌≡◌, ℕ, ◌-◌, Bool, cond, ◌&&◌, ◌||◌, List, [], ◌∷◌, ◌++◌, length, take, Some, None, Ok, Err, Option, Result, nat_le, slice_set}
use Rattle.base.specs.declared.misfit.Misfit.{Misfit}
use Rattle.base.specs.declared.misfit.Misfit.TheVariants.{NoForm, OutOfRange, NotRising, PastLimit}
use Rattle.rules.specs.Limits.{max_rules, max_body, max_size}
use Rattle.rules.specs.Program.{Rule, Program, body_size, weight}
use Rattle.rules.specs.Asked.{rule_at}
use Rattle.rules.specs.declared.literal.Literal.{Literal}
use Rattle.rules.specs.declared.rejection.Rejection.{Rejection}
use Rattle.rules.specs.declared.rejection.Rejection.TheVariants.{Unfit, OutOfMemory}

-- one rule more, with an empty body
abbrev pub with_rule : Program → ℕ → Program
with_rule P h = record { atoms = P.atoms; rules = P.rules ++ record { head = h; pos = []; neg = [] } ∷ [] }

-- one literal more in a rule
abbrev pub longer : Rule → Literal → Rule
longer r l = record {
  head = r.head;
  pos = cond l.positive (r.pos ++ l.atom ∷ []) r.pos;
  neg = cond l.positive r.neg (r.neg ++ l.atom ∷ []);
}

-- the last rule, or no rule
abbrev pub last_rule : Program → Rule
last_rule P = rule_at P (length P.rules)

-- one literal more in the last rule
abbrev pub with_literal : Program → Literal → Program
with_literal P l = record { atoms = P.atoms; rules = slice_set P.rules (length P.rules - 1) (longer (last_rule P) l) }

-- the program of the first i rules
abbrev pub first_rules : Program → ℕ → Program
first_rules P i = record { atoms = P.atoms; rules = take i P.rules }

-- the last number of a list, or 0
abbrev pub last_of : List ℕ → ℕ
last_of [] = 0
last_of (x ∷ []) = x
last_of (x ∷ (y ∷ ys)) = last_of (y ∷ ys)

-- a cause that is told where a test holds, before what else there is to tell
abbrev pub cause_if : Bool → Misfit → Option Misfit → Option Misfit
cause_if b m rest = cond b (Some m) rest

-- an atom from 1 to n
abbrev pub names : ℕ → ℕ → Bool
names n a = nat_le 1 a && nat_le a n

-- why a rule with this head is not added
abbrev pub rule_misfit : Program → ℕ → Option Misfit
rule_misfit P h =
    cause_if (nat_le max_rules (length P.rules) || nat_le max_size (weight P.rules)) PastLimit
    (cond (names P.atoms h) None (Some OutOfRange))

-- the last atom before l in its run
abbrev pub before : Rule → Literal → ℕ
before r l = last_of (cond l.positive r.pos r.neg)

-- no rule has begun, or a positive atom comes behind a negative one
abbrev pub misplaced : Program → Literal → Bool
misplaced P l = nat_le (length P.rules) 0 || (l.positive && nat_le 1 (length (last_rule P).neg))

-- why a literal is not added to the last rule
abbrev pub literal_misfit : Program → Literal → Option Misfit
literal_misfit P l =
    cause_if (nat_le max_body (body_size (last_rule P)) || nat_le max_size (weight P.rules)) PastLimit
    (cause_if (misplaced P l) NoForm
    (cond (names P.atoms l.atom) (cond (nat_le l.atom (before (last_rule P) l)) (Some NotRising) None) (Some OutOfRange)))

-- what was added to P: `grown` stands unless there is a misfit, or no memory, and P else
abbrev pub Added : Option Misfit → Program → Program → Result (Unit {0}) Rejection → Program → Type 0
Added misfit P grown (Ok done) after = (misfit ≡ None) × (after ≡ grown)
Added misfit P grown (Err (Unfit m)) after = (misfit ≡ Some m) × (after ≡ P)
Added misfit P grown (Err OutOfMemory) after = (misfit ≡ None) × (after ≡ P)
