-- The program of a sheet is well formed and within the limits of a rule source. Assumes nothing.
use Rattle.std.specs.Prelude.{◌≡◌, ℕ, zero, suc, ◌+◌, ◌-◌, ◌*◌, ◌/◌, ◌%◌, ◌<◌, ◌≤◌, Bool, true, false, cond, not, ◌&&◌, ◌||◌, ◌⊎◌, List, [], ◌∷◌, ◌++◌, map, length, ◌==◌}
use Rattle.std.proofs.Math.Logic.{inl, inr, ⊎_elim}
use Rattle.std.proofs.Common.{sym, ap, subst, ◌∙◌, add-mul, arith}
use Rattle.std.specs.List.{range_with_len, AllByRecursion}
use Rattle.std.proofs.lemmas.Nat.{div-add-mod', mod_below, mul-le}
use Rattle.std.proofs.lemmas.List.FromFn.{length-range_with_len, get_or-range_with_len}
use Rattle.std.proofs.ByRecursion.{All-append, All-map, All-weaker, All-from_get_or}
use Rattle.std.proofs.lemmas.List.{append-nil, length-append, length-map, length-take}
use Rattle.std.proofs.lemmas.Bool.{cases_Bool, cases_lt, and_parts, or_cases, eqb-true}
use Rattle.sets.specs.Sets.{rising}
use Rattle.sets.proofs.Rising.{length_rising_none, length_rising_more, length_rising_most}
use Rattle.rules.specs.Program.{Rule, Rising, body_size, weight, RuleOver, Within}
use Rattle.sharing.specs.Limits.{max_heads, max_jobs}
use Rattle.sharing.specs.Sheets.{Sheet, Limited, sheet_of, pair_count, job_of, head_of, same_job, same_head, same_ink, allowed, excludes, serves, pair_rule, waiting_rule, sheet_program}
use Rattle.sharing.specs.declared.sheet.SharingSheet.{SharingSheet}

-- one number more at the end of a rising list
rises_push : (low middle high x : ℕ) (xs : List ℕ) → Rising low middle xs → low < x → middle < x → x ≤ high → Rising low high (xs ++ x ∷ [])
rises_push low middle high x [] r above over under = (above, under, tt)
rises_push low middle high x (y ∷ ys) r above over under =
    (r.0, omega (arith, r.1), rises_push y middle high x ys r.2 (omega (arith, r.1)) over under)

rises_higher : (low middle high : ℕ) (xs : List ℕ) → middle ≤ high → Rising low middle xs → Rising low high xs
rises_higher low middle high [] h r = tt
rises_higher low middle high (x ∷ xs) h r = (r.0, omega (arith, r.1), rises_higher x middle high xs h r.2)

-- the numbers that pass a test rise
pub rising_rises : (p : ℕ → Bool) (n : ℕ) → Rising 0 n (rising p n)
unfolding rising
rising_rises p zero = tt
rising_rises p (suc n) = by_test (p (suc n)) (rising_rises p n)
  where
    by_test : (t : Bool) → Rising 0 n (rising p n) → Rising 0 (suc n) (rising p n ++ cond t (suc n ∷ []) [])
    by_test true r = rises_push 0 n (suc n) (suc n) (rising p n) r (omega arith) (omega arith) (omega arith)
    by_test false r = subst (Rising 0 (suc n)) (sym (append-nil (rising p n))) (rises_higher 0 n (suc n) (rising p n) (omega arith) r)

pub rises_between : (low high : ℕ) (xs : List ℕ) → Rising low high xs → AllByRecursion (λ a. (low < a) × (a ≤ high)) xs
rises_between low high [] r = tt
rises_between low high (x ∷ xs) r =
    ((r.0, r.1), All-weaker (λ a. (x < a) × (a ≤ high)) (λ a. (low < a) × (a ≤ high)) (λ a h. (omega (arith, r.0, h.0), h.1)) xs (rises_between x high xs r.2))

-- what one more number adds to the count of those that pass
count_in : (p : ℕ → Bool) (n : ℕ) → p (suc n) ≡ true → length (rising p (suc n)) ≡ length (rising p n) + 1
count_in p n e = length_rising_more p n ∙ ap (λ t. length (rising p n) + cond t 1 0) e

count_out : (p : ℕ → Bool) (n : ℕ) → p (suc n) ≡ false → length (rising p (suc n)) ≡ length (rising p n)
count_out p n e = omega (arith, length_rising_more p n ∙ ap (λ t. length (rising p n) + cond t 1 0) e)

-- a test that only numbers of an interval pass
module _ (p : ℕ → Bool) (low high : ℕ) (inside : (n : ℕ) → p (suc n) ≡ true → (low ≤ n) × (n < high)) where
  few_inside : (n : ℕ) → (length (rising p n) ≤ n - low) × (length (rising p n) ≤ high - low)
  few_inside zero = (omega (arith, length_rising_none p), omega (arith, length_rising_none p))
  few_inside (suc n) = ⊎_elim (λ e. more e (few_inside n)) (λ e. same e (few_inside n)) (cases_Bool (p (suc n)))
    where
      more : p (suc n) ≡ true → ((length (rising p n) ≤ n - low) × (length (rising p n) ≤ high - low)) → (length (rising p (suc n)) ≤ suc n - low) × (length (rising p (suc n)) ≤ high - low)
      more e so_far =
          let at = inside n e in
          (omega (arith, count_in p n e, so_far.0, at.0), omega (arith, count_in p n e, so_far.0, at.0, at.1))

      same : p (suc n) ≡ false → ((length (rising p n) ≤ n - low) × (length (rising p n) ≤ high - low)) → (length (rising p (suc n)) ≤ suc n - low) × (length (rising p (suc n)) ≤ high - low)
      same e so_far = (omega (arith, count_out p n e, so_far.0), omega (arith, count_out p n e, so_far.1))

-- a test that numbers of one remainder alone pass
module _ (p : ℕ → Bool) (H h : ℕ) (some : h < H) (only : (n : ℕ) → p (suc n) ≡ true → n % H ≡ h) where
  fewer : (f q : ℕ) → f * H < q * H + H → f ≤ q
  fewer f q less =
      ⊎_elim (λ (l : f < q + 1). omega arith) (λ (l : q + 1 ≤ f). absurd (omega (arith, mul-le (q + 1) H f H l (omega arith), add-mul q 1 H))) (cases_lt f (q + 1))

  spread : (n : ℕ) → length (rising p n) * H + h < n + H
  spread zero = omega (arith, ap (λ k. k * H) (length_rising_none p))
  spread (suc n) = ⊎_elim (λ e. more e (spread n)) (λ e. same e (spread n)) (cases_Bool (p (suc n)))
    where
      more : p (suc n) ≡ true → length (rising p n) * H + h < n + H → length (rising p (suc n)) * H + h < suc n + H
      more e so_far =
          let f = length (rising p n) in
          let q = n / H in
          let split = div-add-mod' n H in
          let few : f ≤ q = fewer f q (omega (arith, only n e)) in
          omega (arith, ap (λ k. k * H) (count_in p n e), add-mul f 1 H, mul-le f H q H few (omega arith), only n e)

      same : p (suc n) ≡ false → length (rising p n) * H + h < n + H → length (rising p (suc n)) * H + h < suc n + H
      same e so_far = omega (arith, ap (λ k. k * H) (count_out p n e))

  few_spread : (J : ℕ) → length (rising p (J * H)) ≤ J
  few_spread J = fewer (length (rising p (J * H))) J (omega (arith, spread (J * H)))

-- a test that no number passes that fails two others
module _ (p q r : ℕ → Bool) (either : (b : ℕ) → p b ≡ true → (q b ≡ true) ⊎ (r b ≡ true)) where
  few_either : (n : ℕ) → length (rising p n) ≤ length (rising q n) + length (rising r n)
  few_either zero = omega (arith, length_rising_none p)
  few_either (suc n) = ⊎_elim (λ e. more (either (suc n) e) e (few_either n)) (λ e. same e (few_either n)) (cases_Bool (p (suc n)))
    where
      more : (q (suc n) ≡ true) ⊎ (r (suc n) ≡ true) → p (suc n) ≡ true → length (rising p n) ≤ length (rising q n) + length (rising r n) → length (rising p (suc n)) ≤ length (rising q (suc n)) + length (rising r (suc n))
      more (inl d) e so_far = omega (arith, count_in p n e, count_in q n d, length_rising_more r n)
      more (inr d) e so_far = omega (arith, count_in p n e, count_in r n d, length_rising_more q n)

      same : p (suc n) ≡ false → length (rising p n) ≤ length (rising q n) + length (rising r n) → length (rising p (suc n)) ≤ length (rising q (suc n)) + length (rising r (suc n))
      same e so_far = omega (arith, count_out p n e, length_rising_more q n, length_rising_more r n)

-- the bodies of a sheet's rules
module _ (S : Sheet) (limited : Limited S) where
  abbrev n : ℕ
  n = (sheet_program S).atoms

  -- a rule over the sheet's atoms, with a body that is shorter than it must be
  abbrev Short : Rule → Type 0
  Short r = RuleOver n r × (body_size r ≤ max_heads + max_jobs)

  few_pairs : pair_count S ≤ max_jobs * max_heads
  few_pairs = mul-le (length S.jobs) S.heads max_jobs max_heads limited.few_jobs limited.few_heads

  few_of_a_job : (j : ℕ) (p : ℕ → Bool) → ((b : ℕ) → p b ≡ true → job_of S b ≡ j) → length (rising p (pair_count S)) ≤ S.heads
  few_of_a_job j p only = omega (arith, (few_inside p (j * S.heads) (j * S.heads + S.heads) inside (pair_count S)).1)
    where
      inside : (b : ℕ) → p (suc b) ≡ true → (j * S.heads ≤ b) × (b < j * S.heads + S.heads)
      inside b e =
          let H = S.heads in
          let split = div-add-mod' b H in
          let rest : b % H < H = mod_below b H limited.some_heads in
          let back : suc b - 1 ≡ b = omega arith in
          let same = ap (λ k. k / H * H) (sym back) ∙ ap (λ k. k * H) (only (suc b) e) in
          (omega arith, omega arith)

  few_on_a_head : (a : ℕ) → length (rising (same_head S a) (pair_count S)) ≤ length S.jobs
  few_on_a_head a = few_spread (same_head S a) S.heads (head_of S a) (mod_below (a - 1) S.heads limited.some_heads) only (length S.jobs)
    where
      only : (b : ℕ) → same_head S a (suc b) ≡ true → b % S.heads ≡ head_of S a
      only b e = let back : b ≡ suc b - 1 = omega arith in ap (λ k. k % S.heads) back ∙ sym (eqb-true (head_of S a) (head_of S (suc b)) e)

  -- a pair that excludes another has its job or its head
  either : (a b : ℕ) → excludes S a b ≡ true → (same_job S a b ≡ true) ⊎ (same_head S a b ≡ true)
  unfolding excludes
  either a b e =
      let j = same_job S a b in
      let h = same_head S a b in
      let i = same_ink S a b in
      ⊎_elim
      (λ l. inl (and_parts j (not h) l).0)
      (λ r. inr (and_parts h (not i) r).0)
      (or_cases (j && not h) (h && not i) (and_parts (allowed S b) ((j && not h) || (h && not i)) e).1)

  few_excluding : (a : ℕ) → length (rising (excludes S a) (pair_count S)) ≤ S.heads + length S.jobs
  few_excluding a =
      omega (
        arith,
        few_either (excludes S a) (same_job S a) (same_head S a) (either a) (pair_count S),
        few_of_a_job (job_of S a) (same_job S a) (λ b e. sym (eqb-true (job_of S a) (job_of S b) e)),
        few_on_a_head a,
      )

  few_serving : (j : ℕ) → length (rising (serves S j) (pair_count S)) ≤ S.heads
  unfolding serves
  few_serving j = few_of_a_job j (serves S j) (λ b e. eqb-true (job_of S b) j (and_parts (allowed S b) (job_of S b == j) e).1)

  negative_rises : (p : ℕ → Bool) → Rising 0 n (rising p (pair_count S))
  negative_rises p = rises_higher 0 (pair_count S) n (rising p (pair_count S)) (omega arith) (rising_rises p (pair_count S))

  pair_short : (a : ℕ) → (0 < a) × (a ≤ pair_count S) → Short (pair_rule S a)
  pair_short a h =
      let few : body_size (pair_rule S a) ≤ max_heads + max_jobs = omega (arith, few_excluding a, limited.few_heads, limited.few_jobs) in (
        record {
          head_low = h.0;
          head_high = omega (arith, h.1);
          pos_rises = tt;
          neg_rises = negative_rises (excludes S a);
          short = omega (arith, few);
        },
        few,
      )

  waiting_short : (j : ℕ) → j < length S.jobs → Short (waiting_rule S j)
  waiting_short j h =
      let few : body_size (waiting_rule S j) ≤ max_heads + max_jobs = omega (arith, few_serving j, limited.few_heads) in (
        record {
          head_low = omega arith;
          head_high = omega arith;
          pos_rises = tt;
          neg_rises = negative_rises (serves S j);
          short = omega (arith, few);
        },
        few,
      )

  all_short : AllByRecursion Short (sheet_program S).rules
  all_short =
      let pairs = rising (allowed S) (pair_count S) in
      let jobs = range_with_len 0 (length S.jobs) in
      All-append Short (map (pair_rule S) pairs) (map (waiting_rule S) jobs)
      (All-map Short (pair_rule S) pairs
      (All-weaker (λ a. (0 < a) × (a ≤ pair_count S)) (λ a. Short (pair_rule S a)) pair_short pairs (rises_between 0 (pair_count S) pairs (rising_rises (allowed S) (pair_count S)))))
      (All-map Short (waiting_rule S) jobs
      (All-weaker (λ j. j < length S.jobs) (λ j. Short (waiting_rule S j)) waiting_short jobs waiting))
    where
      waiting : AllByRecursion (λ j. j < length S.jobs) (range_with_len 0 (length S.jobs))
      waiting =
          let J = length S.jobs in
          All-from_get_or (λ j. j < J) (range_with_len 0 J) 0 (λ i h. omega (arith, length-range_with_len 0 J, get_or-range_with_len 0 J i 0 (omega (arith, length-range_with_len 0 J))))

  light_rules : (rs : List Rule) → AllByRecursion Short rs → weight rs ≤ (1 + max_heads + max_jobs) * length rs
  light_rules [] a = omega arith
  light_rules (r ∷ rs) a = omega (arith, light_rules rs a.1, a.0.1)

  few_rules : length (sheet_program S).rules ≤ pair_count S + length S.jobs
  few_rules =
      let pairs = rising (allowed S) (pair_count S) in
      let jobs = range_with_len 0 (length S.jobs) in
      omega (
        arith,
        length-append (map (pair_rule S) pairs) (map (waiting_rule S) jobs),
        length-map pairs (pair_rule S),
        length-map jobs (waiting_rule S),
        length-range_with_len 0 (length S.jobs),
        length_rising_most (allowed S) (pair_count S),
      )

  pub limited_within : Within (sheet_program S)
  limited_within = record {
    few_atoms = omega (arith, few_pairs, limited.few_jobs);
    few_rules = omega (arith, few_rules, few_pairs, limited.few_jobs);
    light = omega (arith, light_rules (sheet_program S).rules all_short, few_rules, few_pairs, limited.few_jobs);
    over = All-weaker Short (RuleOver n) (λ r s. s.0) (sheet_program S).rules all_short;
  }

-- every value of the code keeps the limits
pub sheet_limited : (s : SharingSheet) → Limited (sheet_of s)
sheet_limited s = record { some_heads = s.least; few_heads = s.most; few_jobs = omega (arith, length-take s.count s.jobs, s.room) }

pub sheet_within : (s : SharingSheet) → Within (sheet_program (sheet_of s))
sheet_within s = limited_within (sheet_of s) (sheet_limited s)
