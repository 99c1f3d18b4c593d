-- What is said of each plan, by a test computed over the whole table and one law that turns it into a proof.
-- Assumes nothing.
use Prim.Native.Nat.{ℕ, zero, suc, ◌*◌}
use mathlib.Core.Bool.{Bool, true, not, ◌&&◌, and-false, or-false}
use mathlib.Core.Option.{Option, some, none}
use mathlib.Core.Path.{◌≡◌, refl, ap}
use mathlib.Core.List.{List, [], ◌∷◌, map}
use native.Mathlib.Omega.{arith}
use lib.Dec.{eqb}
use borrow.Author.Tests.{eqb-true, not-true}
use Rattle.bitset.specs.Sets.{any}
use Rattle.semiautomata.specs.Semiautomaton.{Semiautomaton, Within}
use Rattle.semiautomata.specs.Access.{accessible_by, accessible}
use Rattle.semiautomata.specs.Levels.{live, clash_in, clash}
use Rattle.semiautomata.proofs.Levels.{with_and}
use Rattle.semiautomata.proofs.Decide.{clash_out, clash_in_lem, some_shorter, lookahead_first, some_witness, witness_unpredictable}
use Rattle.semiautomata.specs.Lists.{range}
use Rattle.plan.specs.Written.{Listed}
use Rattle.plan.specs.Asked.{refusal_of, Passes}
use Rattle.plan.specs.Bytes.{parsed, meaning, plan_checks, asked_checks, asked, WellFormed}
use Rattle.plan.specs.Parties.{Alone}
use Rattle.plan.proofs.Refusals.{asked_passes, asked_proper}
use Rattle.samples.specs.Plans.{Sample, bytes, A, T₀, samples, Turned, refusal_of_turned, refusals}
use Rattle.samples.specs.Plans.{Ahead, ReadBack, AsSaid, All, Theorems}

-- the test of a look-ahead: no clash at k, one at k - 1; or one at n × n
abbrev pub ahead : Semiautomaton → Option ℕ → Bool
ahead S (some zero) = not (clash S 0)
ahead S (some (suc k)) = clash S k && not (clash S (suc k))
ahead S none = clash S (S.n * S.n)

pub ahead_so : (S : Semiautomaton) → Within S → (v : Option ℕ) → ahead S v ≡ true → Ahead S v
ahead_so S W (some zero) e = lookahead_first S W 0 (λ j h. absurd (omega arith)) (not-true (clash S 0) e)
ahead_so S W (some (suc k)) e = with_and (clash S k) _ (λ p q.
    lookahead_first S W (suc k) (λ j h. clash_in_lem S W j (some_shorter S j k (omega arith) (clash_out S k p)))
    (not-true (clash S (suc k)) q)) e
ahead_so S W none e = let (c, w) = some_witness S W (clash_out S (S.n * S.n) e) in witness_unpredictable S c w

abbrev passes : Sample → Bool
passes s = eqb (refusal_of (asked (bytes s) s.party)) 0 && ahead (meaning (bytes s) s.party) s.lookahead

abbrev all : List Sample → Bool
all [] = true
all (s ∷ ss) = passes s && all ss

holds : (s : Sample) → ReadBack s.plan (parsed (bytes s)) → passes s ≡ true → AsSaid s
holds s r = with_and (eqb (refusal_of (asked (bytes s) s.party)) 0) _ λ a b.
    let w : Passes (asked (bytes s) s.party) = eqb-true (refusal_of (asked (bytes s) s.party)) 0 a in
    let W = ((asked_proper (bytes s) s.party).sized w).within in
    record { read_back = r; passes = w; ahead = ahead_so (meaning (bytes s) s.party) W s.lookahead b }

abbrev AllRead : List Sample → Type 0
AllRead [] = Unit {0}
AllRead (s ∷ ss) = ReadBack s.plan (parsed (bytes s)) × AllRead ss

all_hold : (ss : List Sample) → AllRead ss → all ss ≡ true → All ss
all_hold [] r e = tt
all_hold (s ∷ ss) (r, rs) e = with_and (passes s) _ (λ a b. (holds s r a, all_hold ss rs b)) e

samples_pass : all samples ≡ true
unfolding refusal_of plan_checks asked_checks any clash_in clash live accessible accessible_by
samples_pass = refl

-- what the bytes hold, as a list; all of them are as they are listed, by computing
abbrev back : Sample → Listed
back s =
    let plan = parsed (bytes s) in
    record {
      edition = plan.edition;
      n = plan.n;
      m = plan.m;
      starts = map plan.start (range 0 plan.p);
      lines = map plan.line (range 0 plan.e);
    }

read_back : (ss : List Sample) → map back ss ≡ map (λ (s : Sample). s.plan) ss → AllRead ss
read_back [] e = tt
read_back (s ∷ ss) e =
    let h : back s ≡ s.plan = cc in
    let rest : map back ss ≡ map (λ (s : Sample). s.plan) ss = cc in (
      record {
        edition = ap (λ (P : Listed). P.edition) h;
        n = ap (λ (P : Listed). P.n) h;
        m = ap (λ (P : Listed). P.m) h;
        starts = ap (λ (P : Listed). P.starts) h;
        lines = ap (λ (P : Listed). P.lines) h;
      },
      read_back ss rest,
    )

samples_read : AllRead samples
samples_read = read_back samples refl

-- a sample's plan is well formed
pub as_said_well : {s : Sample} → AsSaid s → WellFormed (bytes s)
as_said_well {s} a = ((asked_passes (bytes s) s.party).0 a.passes).0

pub samples_hold : All samples
samples_hold = all_hold samples samples_read samples_pass

refusals_so : map refusal_of_turned refusals ≡ map (λ (t : Turned). t.number) refusals
unfolding refusal_of plan_checks asked_checks any
refusals_so = refl

alone : Alone (parsed (bytes T₀)) 0 (parsed (bytes A))
unfolding any
alone = record { edition = refl; n = refl; m = refl; starts = λ s. refl; lines = λ s a t. simp (and-false, or-false) }

pub theorems : Theorems
theorems = record { hold = samples_hold; turned_down = refusals_so; alone = alone; as_document = refl }
