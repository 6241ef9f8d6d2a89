-- How long the texts are, and that they fit into the room that is asked for them. Assumes nothing.
use Rattle.std.proofs.Common.{◌≡◌, ℕ, zero, suc, ◌+◌, ◌*◌, ◌^◌, ◌<◌, ◌≤◌, Bool, true, false, length, decimal, refl, ⊎_elim, div-lt_iff_lt-mul, arith}
use Rattle.std.proofs.lemmas.List.{length-append}
use Rattle.std.proofs.lemmas.Fmt.{length-decimal-le}
use Rattle.std.proofs.lemmas.Bool.{cases_lt}
use Rattle.sets.specs.Limits.{max_atoms}
use Rattle.sets.specs.Sets.{Atoms, rising}
use Rattle.sets.proofs.Rising.{length_rising_most}
use Rattle.texts.specs.Texts.{percent, headline}
use Rattle.texts.specs.Buffered.{report_room, refusal_room, sign, letter, report_line, report_lines, report, refusal_text}

pub length_headline : (count n : ℕ) → length (headline count n) ≡ length (decimal count) + length (decimal n) + length (decimal (percent count n)) + 12
length_headline count n = simp length-append (omega arith)

length_sign : (planned : Bool) → length (sign planned) ≡ 1
length_sign true = refl
length_sign false = refl

length_letter : (held unsettled : Bool) → length (letter held unsettled) ≡ 1
length_letter true unsettled = refl
length_letter false true = refl
length_letter false false = refl

pub length_report_line : (plan held unsettled : Atoms) (a : ℕ) → length (report_line plan held unsettled a) ≡ length (decimal a) + 5
length_report_line plan held unsettled a = simp (length-append, length_sign, length_letter) (omega arith)

pub length_refusal_text : (number value : ℕ) → length (refusal_text number value) ≡ length (decimal number) + length (decimal value) + 13
length_refusal_text number value = simp length-append (omega arith)

pub refusal_fits : (number value : ℕ) → number < 2 ^ 8 → value < 2 ^ 32 → length (refusal_text number value) ≤ refusal_room
refusal_fits number value byte word =
    omega (arith, length_refusal_text number value, length-decimal-le 3 number (omega arith) (omega arith) (omega arith), length-decimal-le 10 value (omega arith) (omega arith) (omega arith))

pub report_line_short : (plan held unsettled : Atoms) (a : ℕ) → a ≤ max_atoms → length (report_line plan held unsettled a) ≤ 9
report_line_short plan held unsettled a few = omega (arith, length_report_line plan held unsettled a, length-decimal-le 4 a (omega arith) (omega arith) (omega arith))

pub report_lines_short : (plan held unsettled : Atoms) (n : ℕ) → n ≤ max_atoms → length (report_lines plan held unsettled n) ≤ 9 * n
report_lines_short plan held unsettled zero few = omega arith
report_lines_short plan held unsettled (suc n) few =
    omega (arith, length-append (report_lines plan held unsettled n) (report_line plan held unsettled (suc n)), report_lines_short plan held unsettled n (omega arith), report_line_short plan held unsettled (suc n) few)

percent_most : (count n : ℕ) → count ≤ max_atoms → percent count n ≤ 100 * max_atoms
percent_most count zero few = omega arith
percent_most count (suc n) few = omega arith

-- three digits at most, where the atoms are many
percent_short : (count n : ℕ) → count ≤ max_atoms → 1000 < n → percent count n < 1000
percent_short count zero few many = omega arith
percent_short count (suc n) few many = (div-lt_iff_lt-mul {k = suc n} {x = 100 * count} {y = 1000} (omega arith)).1 (omega arith)

-- the headline is longer where the count is far above n, but then the lines are few
pub lines_fit : (count n : ℕ) → count ≤ max_atoms → n ≤ max_atoms → length (headline count n) + 9 * n ≤ report_room
lines_fit count n few most =
    let c = length-decimal-le 4 count (omega arith) (omega arith) (omega arith) in
    let a = length-decimal-le 4 n (omega arith) (omega arith) (omega arith) in
    let p = percent_most count n few in
    ⊎_elim
    (λ (many : 1000 < n). let d = length-decimal-le 3 (percent count n) (omega arith) (percent_short count n few many) (omega arith) in omega (arith, length_headline count n))
    (λ (less : n ≤ 1000). let d = length-decimal-le 6 (percent count n) (omega arith) (omega arith) (omega arith) in omega (arith, length_headline count n))
    (cases_lt 1000 n)

pub report_fits : (n : ℕ) (plan held unsettled : Atoms) → n ≤ max_atoms → length (report n plan held unsettled) ≤ report_room
report_fits n plan held unsettled few =
    let count = length (rising plan max_atoms) in
    omega (
      arith,
      length-append (headline count n) (report_lines plan held unsettled n),
      lines_fit count n (length_rising_most plan max_atoms) few,
      report_lines_short plan held unsettled n few,
    )
