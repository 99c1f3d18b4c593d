-- The sample of specs/Sample.antt: each call's promise is met by computation.
-- Assumes nothing.
use Prim.Native.Nat.{ℕ}
use mathlib.Core.Path.{◌≡◌, refl}
use mathlib.Core.List.{List, [], ◌∷◌, flat_map}
use native.Mathlib.Omega.{arith}
use Rattle.bitset.specs.Sets.{any, size, least}
use Rattle.bitset.specs.Numbers.{has, set_of}
use Rattle.semiautomata.specs.Predictability.{Lookahead}
use Rattle.semiautomata.specs.Walks.{spells, step, possible, walkable}
use Rattle.streaming.specs.PlainWalk.{limit}
use Rattle.streaming.specs.Streaming.{base, sound, sole_at, settle}
use Rattle.plan.specs.Bytes.{meaning, plan_checks, asked_checks, asked}
use Rattle.plan.proofs.Refusals.{asked_proper}
use Rattle.table.specs.Table.{unfit, contents, laid_out}
use Rattle.plan.specs.Asked.{refusal_with}
use Rattle.prepare.specs.Preparing.{prepare_refusal}
use Rattle.records.specs.Bytes.{tidy}
use Rattle.std.specs.Prelude.{Ok, Err, None}
use Rattle.refusals.specs.declared.Refusal.TheVariants.{Letter}
use Rattle.predictor.specs.Calls.{opened_on, fed_on, Opens, Feeds}
use Rattle.demand.specs.Demand.{Made, none, more, Walk}
use Rattle.demand.specs.Sample.{plan_a, table_a, offered, booked, answers_on_a, OnPlanA}
use Rattle.demand.proofs.Theorems.{walked_right}
use Rattle.samples.proofs.Plans.{samples_hold}

-- THE TABLE

abbrev old : List ℕ
old = 9 ∷ 9 ∷ 9 ∷ 9 ∷ 9 ∷ 9 ∷ 9 ∷ 9 ∷ []

laid : table_a ≡ laid_out (contents (meaning plan_a 0) 1) old
unfolding flat_map set_of any
laid = refl

no_refusal : prepare_refusal (asked plan_a 0) 8 9 ≡ 0
unfolding refusal_with plan_checks asked_checks any
no_refusal = refl

abbrev letters : List ℕ
letters = 7 ∷ 7 ∷ 7 ∷ 7 ∷ 7 ∷ 7 ∷ 7 ∷ 7 ∷ 7 ∷ []

predicts : Lookahead (meaning plan_a 0) 1
predicts = samples_hold.0.ahead

made : Made (asked plan_a 0) 1 table_a
made = record {
  old = old;
  old_letters = letters;
  letters = letters;
  prepared = ((no_refusal, predicts), laid, refl);
}

-- THE RECORD, in ten bytes of which the last is kept: before opening, opened, and after each letter that is taken

abbrev lent : List ℕ
lent = 5 ∷ 5 ∷ 5 ∷ 5 ∷ 5 ∷ 5 ∷ 5 ∷ 5 ∷ 5 ∷ 5 ∷ []

abbrev begun : List ℕ
begun = 0 ∷ 0 ∷ 0 ∷ 0 ∷ 255 ∷ 0 ∷ 0 ∷ 0 ∷ 0 ∷ 5 ∷ []

abbrev after : ℕ → ℕ → List ℕ
after fed last = fed ∷ 0 ∷ 0 ∷ 0 ∷ last ∷ 0 ∷ 1 ∷ 0 ∷ 0 ∷ 5 ∷ []

opens : Opens table_a lent (Ok None) begun
unfolding opened_on unfit settle any has
opens = (refl, refl)

first : Feeds table_a begun 0 (booked 0 0) (after 1 0)
unfolding fed_on unfit tidy sound base limit settle sole_at walkable possible spells step any size least has
first = (refl, refl)

refused_1 : Feeds table_a (after 1 0) 1 (Err Letter) (after 1 0)
unfolding fed_on unfit tidy sound base limit settle sole_at walkable possible spells step any size least has
refused_1 = (refl, refl)

second : Feeds table_a (after 1 0) 0 (booked 1 1) (after 2 1)
unfolding fed_on unfit tidy sound base limit settle sole_at walkable possible spells step any size least has
second = (refl, refl)

third : Feeds table_a (after 2 1) 0 (booked 2 1) (after 3 1)
unfolding fed_on unfit tidy sound base limit settle sole_at walkable possible spells step any size least has
third = (refl, refl)

refused_256 : Feeds table_a (after 3 1) 256 (Err Letter) (after 3 1)
unfolding fed_on unfit tidy sound base limit settle sole_at walkable possible spells step any size least has
refused_256 = (refl, refl)

walk : Walk table_a 1 offered (Ok None) answers_on_a
walk = record {
  bytes = lent;
  room = omega arith;
  left = begun;
  opening = opens;
  feeding = more first (more refused_1 (more second (more third (more refused_256 none))));
}

pub sample : OnPlanA
sample = record {
  made = made;
  walk = walk;
  demand3 = walked_right (asked plan_a 0) (asked_proper plan_a 0) 1 table_a made offered (Ok None) answers_on_a walk (λ r e. let z : ◌≡◌ {A = ℕ} 0 1 =
      cc in absurd (omega arith));
}
