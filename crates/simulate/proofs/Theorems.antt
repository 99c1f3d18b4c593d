-- The theorems of specs/Theorems.antt.
-- Assumes nothing.
use Rattle.std.specs.Prelude.{Result, Ok, Err}
use Prim.Native.Nat.{ℕ, suc, ◌^◌, ◌≤◌, ◌<◌}
use mathlib.Core.Bool.{Bool, true, false, not, false≢true}
use mathlib.Core.Option.{some}
use mathlib.Core.Logic.{◌↔◌}
use mathlib.Core.Path.{◌≡◌, sym, ◌∙◌, ap}
use mathlib.Core.List.{List, [], ◌∷◌}
use native.Mathlib.Omega.{arith}
use lib.Count.{ones-le}
use lib.Dec.{leb}
use lib.ListN.{length, get_or, take, drop, length-append, length-drop}
use lib.Pow.{pow_pos}
use lib.Seq.{drop_at, take-take}
use borrow.Author.Tests.{le-ltb, ltb-false, leb-false, not-false}
use Rattle.bitset.specs.Sets.{size}
use Rattle.bitset.specs.Numbers.{has, set_of}
use Rattle.bitset.proofs.Tests.{not_so, same_test, or_none}
use Rattle.bitset.proofs.Below.{any_in, any_out}
use Rattle.bitset.proofs.Bits.{has_empty, has_lt, some_member, set_of_cong, set_of_has}
use Rattle.bitset.proofs.Counts.{ones_size}
use Rattle.semiautomata.specs.Semiautomaton.{Semiautomaton, Within, Path, Spells}
use Rattle.semiautomata.specs.Predictability.{Critical, member, named}
use Rattle.semiautomata.specs.Walks.{OnPlan, LedTo, Longest, Possible, PossibleAt, reach}
use Rattle.semiautomata.proofs.Paths.{path_lt, path_letters}
use Rattle.semiautomata.proofs.Computed.{led_in, led_out, longest_unique}
use Rattle.semiautomata.proofs.Positions.{some_possible, on_plan_longest}
use Rattle.refusals.proofs.First.{first_passed, passed_first}
use Rattle.semiautomata.specs.Sizes.{max_states}
use Rattle.table.specs.Table.{states_of, letters_of, initial_of, table_meaning, unfit}
use Rattle.table.proofs.Fitness.{fitting}
use Rattle.walks.proofs.Letters.{letters_stray}
use Rattle.walks.proofs.Longest.{longest_some}
use Rattle.walks.specs.declared.Gathered.{Gathered}
use Rattle.refusals.specs.declared.Refusal.{Refusal}
use Rattle.simulate.specs.declared.Verdict.{Verdict}
use Rattle.simulate.specs.Stepping.{step_checks, step_refusal, gathered_of, StepsTo, StepsAlong}
use Rattle.simulate.specs.Walking.{walk_checks, walk_refusal, traced, Walks}
use Rattle.simulate.specs.Verdicts.{Stands, Tells, Judges}
use Rattle.simulate.specs.Theorems.{Theorems}
use Rattle.simulate.proofs.Sets.{stands}
use Rattle.simulate.proofs.Stepping.{along_is, step_passes, steps_on}
use Rattle.simulate.proofs.Positions.{traced_length, traced_stands}
use Rattle.simulate.proofs.Along.{LastShown, last_shown}

pub one_set : (n : ℕ) (P : ℕ → Type 0) (a b : ℕ) → Stands n P a → Stands n P b → a ≡ b
one_set n P a b s t =
    sym (set_of_has n a s.fits)
    ∙ set_of_cong n _ _ (λ x _. same_test _ _ (λ e. (t.is x).1 ((s.is x).0 e)) (λ e. (s.is x).1 ((t.is x).0 e)))
    ∙ set_of_has n b t.fits

-- ONE STEP

-- what a word leads to from a set, as a number
led_stands : (S : Semiautomaton) → Within S → (set : ℕ) → set < 2 ^ S.n → (w : List ℕ) {last : ℕ}
    → last ≡ set_of S.n (reach S (has set) w) → Stands S.n (LedTo S (has set) w) last
led_stands S W set h w e = stands S.n _ e (led_out S (has set) w)
    (λ x c. (path_lt S W w c.start x (has_lt _ _ _ h c.from_it) c.path, led_in S W (has set) w x c))

-- a step that is not refused was lent a fit table and a set of its states
step_passed : (table : List ℕ) (set a : ℕ) (g : Gathered) → StepsTo table set a (Ok g)
    → (unfit table ≡ false) × (set < 2 ^ states_of table)
unfolding step_refusal
step_passed table set a g (z, _) =
    let (fit, (on, _)) = first_passed 12 (step_checks table set a) (search arith) z in
    (fit, leb-false (2 ^ states_of table) set (or_none (leb (letters_of table) a) _ on).1)

stepped : (table : List ℕ) (set a : ℕ) (g : Gathered) → StepsTo table set a (Ok g)
    → Stands (states_of table) (LedTo (table_meaning table) (has set) (a ∷ [])) g.set × (g.rounds ≡ size (states_of table) (has set))
stepped table set a g c =
    let (fit, h) = step_passed table set a g c in (
      led_stands (table_meaning table) (fitting table fit).within set h (a ∷ []) (ap (λ (g : Gathered). g.set) c.1),
      ap (λ (g : Gathered). g.rounds) c.1,
    )

pub few_rounds : (table : List ℕ) (set a : ℕ) (g : Gathered) → StepsTo table set a (Ok g) → g.rounds ≤ max_states
few_rounds table set a g c =
    let (fit, h) = step_passed table set a g c in
    let n = states_of table in
    let e : g.rounds ≡ size n (has set) = ap (λ (g : Gathered). g.rounds) c.1 in
    omega (arith, e, ones_size n set h, ones-le n set h, (fitting table fit).states)

step_taken : (table : List ℕ) (set a : ℕ) (s : Result Gathered Refusal) → unfit table ≡ false → set < 2 ^ states_of table
    → a < letters_of table → StepsTo table set a s → s ≡ Ok (gathered_of (table_meaning table) set a)
step_taken table set a (Ok g) fit h b (_, e) = ap Ok e
step_taken table set a (Err r) fit h b (e, n, _) = absurd (n (e ∙ step_passes table set a fit h b))

along : (table : List ℕ) (set : ℕ) (word : List ℕ) (last : ℕ) → unfit table ≡ false → set < 2 ^ states_of table
    → StepsAlong table set word last → Stands (states_of table) (LedTo (table_meaning table) (has set) word) last
along table set word last fit h c =
    led_stands (table_meaning table) (fitting table fit).within set h word (along_is table set word last h c)

along_starts : (table word : List ℕ) (last : ℕ) → unfit table ≡ false → StepsAlong table (initial_of table) word last
    → Stands (states_of table) (LedTo (table_meaning table) (table_meaning table).initial word) last
along_starts table word last fit c = along table (initial_of table) word last fit (fitting table fit).initial c

-- WHOLE WALKS

pub walked : (table word : List ℕ) (g : ℕ) (old out : List ℕ) → Walks table word (Ok g) old out
    → Longest (table_meaning table) word g
    × ((i : ℕ) → i ≤ g → Stands (states_of table) (PossibleAt (table_meaning table) word i) (get_or out i 0))
    × (drop (suc g) out ≡ drop (suc g) old)
    × (length out ≡ length old)
unfolding walk_refusal
walked table word g old out (z, (e, is)) =
    let (fit, (long, (_, (start, _)))) = first_passed 14 (walk_checks table word (length old)) (search arith) z in
    let S = table_meaning table in
    let W = (fitting table fit).within in
    let l = longest_some S W word (not-false _ start) in
    let size = traced_length S word in
    let room : suc (length word) ≤ length old = ltb-false _ _ long in
    rw (is, e) (
      l,
      traced_stands S word W l _,
      drop_at (traced S word) _ _ size,
      simp (length-append, length-drop, size) (omega (arith, l.fits, room)),
    )

pub to_its_end : (table word : List ℕ) (a : Result ℕ Refusal) (old out : List ℕ) → unfit table ≡ false → OnPlan (table_meaning table) word
    → length word < length old → Walks table word a old out → a ≡ Ok (length word)
unfolding walk_refusal
to_its_end table word (Ok g) old out fit o room c =
    let S = table_meaning table in
    ap Ok (longest_unique S word g (length word) (walked table word g old out c).0 (on_plan_longest S word o))
to_its_end table word (Err r) old out fit o room (e, n, _) =
    let S = table_meaning table in
    let W = (fitting table fit).within in
    let (t, p) = o.spells in
    let long = le-ltb (length old) (suc (length word)) room in
    let on = not_so _ (λ off. letters_stray S.m word off (record { below = path_letters S W word o.start t p })) in
    let some = any_in S.n S.initial o.start (W.initial_lt o.start o.from_it) o.from_it in
    absurd (n (e ∙ passed_first (walk_checks table word (length old)) (fit, (long, (on, (ap not some, tt))))))

walk_along : (table word : List ℕ) (g : ℕ) (old out : List ℕ) → Walks table word (Ok g) old out
    → (i last : ℕ) → i ≤ length word → StepsAlong table (initial_of table) (take i word) last
    → ((i ≤ g) ↔ ¬ (last ≡ 0))
    × (i ≤ g → (x : ℕ) → (has (get_or out i 0) x ≡ true) ↔ ((has last x ≡ true) × Spells (table_meaning table) x (drop i (take g word))))
    × LastShown i g last out
unfolding walk_refusal
walk_along table word g old out c i last h steps = ((from, into), of_those, last_shown S word g i last out l of_those)
  where
    S : Semiautomaton
    S = table_meaning table

    fit : unfit table ≡ false
    fit = (first_passed 14 (walk_checks table word (length old)) (search arith) c.0).0

    l : Longest S word g
    l = (walked table word g old out c).0

    led : Stands S.n (LedTo S S.initial (take i word)) last
    led = along_starts table (take i word) last fit steps

    of_those : i ≤ g → (x : ℕ) → (has (get_or out i 0) x ≡ true) ↔ ((has last x ≡ true) × Spells S x (drop i (take g word)))
    of_those k x =
        let at = ((walked table word g old out c).1 i k).is x in
        let part = take-take i g word k in (
          λ e.
              let p = at.0 e in
              let q : Possible S S.initial (take g word) i x = rw (longest_unique S word p.g g p.longest l) at p.is in
              ((led.is x).1 (record { start = q.start; from_it = q.from_it; path = rw part at q.before }), q.after),
          λ (e, after).
              let q = (led.is x).0 e in
              let before : Path S q.start (take i (take g word)) x = rw part q.path in
              at.1 (record {
                g = g;
                longest = l;
                fits = k;
                is = record { start = q.start; from_it = q.from_it; before = before; after = after };
              }),
        )

    from : i ≤ g → ¬ (last ≡ 0)
    from k z =
        let (x, p) = some_possible S S.initial (take g word) i l.walked in
        let path = rw (take-take i g word k) at p.before in
        let e = (led.is x).1 (record { start = p.start; from_it = p.from_it; path = path }) in
        false≢true (sym (has_empty x) ∙ rw z at e)

    into : ¬ (last ≡ 0) → i ≤ g
    into n =
        let (x, _, e) = any_out S.n (has last) (some_member S.n last (omega (arith, n)) led.fits) in
        let q = (led.is x).0 e in
        l.most i h (record { start = q.start; from_it = q.from_it; spells = (x, q.path) })

-- VERDICTS

abbrev verdict : ℕ → Bool → ℕ → Verdict
verdict survivors minimal nonselected = record { survivors = survivors; minimal = minimal; nonselected = nonselected }

pub one_verdict : (S : Semiautomaton) (T : Critical) (word : List ℕ) (v w : Verdict) → Tells S T word v → Tells S T word w → v ≡ w
one_verdict S T word v w a b =
    let s : v.survivors ≡ w.survivors = one_set _ _ _ _ a.survivors b.survivors in
    let m : v.minimal ≡ w.minimal = same_test _ _ (λ e. b.minimal.1 (a.minimal.0 e)) (λ e. a.minimal.1 (b.minimal.0 e)) in
    let n : v.nonselected ≡ w.nonselected = one_set _ _ _ _ a.nonselected b.nonselected in
    λ i. verdict (s i) (m i) (n i)

-- 0 stands for a set without states
stands_none : (n : ℕ) (P : ℕ → Type 0) → ((x : ℕ) → ¬ P x) → Stands n P 0
stands_none n P empty = record {
  fits = pow_pos n;
  is = λ x. (λ e. absurd (false≢true (sym (has_empty x) ∙ e)), λ p. absurd (empty x p));
}

empty_set : (table : List ℕ) (q a : ℕ) (word : List ℕ) (T : Critical) → named (table_meaning table) q a ≡ some T
    → ((t : ℕ) → member (table_meaning table) T t ≡ false) → (v : Verdict) → Judges table q a word (Ok v)
    → v ≡ verdict 0 false 0
empty_set table q a word T name none v (_, tell) =
    let no : (t : ℕ) → ¬ (member (table_meaning table) T t ≡ true) = λ t e. false≢true (sym (none t) ∙ e) in
    one_verdict (table_meaning table) T word v (verdict 0 false 0) (tell T name) (record {
      survivors = stands_none _ _ λ x s. no x s.from_it;
      minimal = (λ e. absurd (false≢true e), λ s. absurd (no _ s.selector.survives.from_it));
      nonselected = stands_none _ _ λ x s. no x s.survives.from_it;
    })

pub theorems : Theorems
theorems = record {
  one_set = one_set;
  stepped = stepped;
  few_rounds = few_rounds;
  step_taken = step_taken;
  steps_on = steps_on;
  along = along;
  along_starts = along_starts;
  walked = walked;
  to_its_end = to_its_end;
  walk_along = walk_along;
  one_verdict = one_verdict;
  empty_set = empty_set;
}
