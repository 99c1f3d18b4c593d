-- Starts and lines entered are what the plan means, and the refusal that is found is the first that applies.
-- Assumes nothing.
use Prim.Native.Nat.{ℕ, ◌+◌, ◌≤◌, ◌<◌}
use mathlib.Core.Bool.{Bool, true, false, not, cond, ◌&&◌, ◌||◌, and-false, or-true}
use mathlib.Core.Path.{◌≡◌, refl, sym, ◌∙◌}
use mathlib.Core.Logic.{◌⊎◌, inl, inr}
use Rattle.std.specs.Prelude.{Ok}
use mathlib.Core.List.{List, [], ◌∷◌, ◌++◌}
use native.Mathlib.Omega.{arith}
use lib.Dec.{eqb, ltb}
use lib.ListN.{length, get_or}
use borrow.Author.Tests.{lt-ltb, ltb-true, ltb-false}
use Rattle.bitset.specs.Sets.{any}
use Rattle.bitset.specs.Numbers.{has, set_of}
use Rattle.bitset.proofs.Tests.{decided, not_so}
use Rattle.bitset.proofs.Bits.{has_set_of, has_high, set_of_lt}
use Rattle.semiautomata.specs.Semiautomaton.{Semiautomaton, Within}
use Rattle.refusals.specs.Checks.{first_of}
use Rattle.refusals.specs.Named.{number_of}
use Rattle.refusals.specs.declared.Refusal.{Refusal}
use Rattle.semiautomata.specs.Successors.{place}
use Rattle.semiautomata.proofs.BySets.{place_lt, successors_are}
use Rattle.plan.specs.declared.Header.{Header}
use Rattle.plan.specs.declared.Lines.{Lines}
use Rattle.plan.specs.Plan.{Plan, is_start, semiautomaton, max_party, start_off, line_off, line_twice, party_high, party_off}
use Rattle.plan.specs.Asked.{refusal_of}
use Rattle.plan.specs.Bytes.{header_of, parsed_by, parsed, header_checks, part_checks, asked, counts_of}
use Rattle.plan.specs.Loading.{Holds, Loads}
use Rattle.plan.specs.inner.Steps.{twice_of, StartsEntered, LinesRead}
use Rattle.semiautomata.proofs.Places.{size_le}
use Rattle.plan.proofs.Refusals.{number_some, named, refused_header, refused_parts, well_formed_range, well_formed_within}
use Rattle.plan.proofs.Refusals.{asked_passes}
use Rattle.plan.proofs.Parting.{twice_parted}

-- WHAT IS ENTERED

pub initial_is : {S : Semiautomaton} → Within S → (s : ℕ) → has (set_of S.n S.initial) s ≡ S.initial s
initial_is {S} W s = elim (decided (S.initial s)) [
  | inl e ↦ rw (has_set_of, e, lt-ltb s S.n (W.initial_lt s e))
  | inr e ↦ rw (has_set_of, e, and-false)
]

module _ (P : Plan) (party : ℕ) (W : Within (semiautomaton P party)) (states : P.n ≤ 64) (letters : P.m ≤ 32) where
  pub holds : {p e : ℕ} {sets : List ℕ} {set : ℕ} {l : Lines} → set ≡ set_of P.n (is_start P) → LinesRead P party sets false l
      → Holds (semiautomaton P party) (record { counts = record { n = P.n; m = P.m; p = p; e = e }; starts = set }) sets
  holds {sets = sets} is l = rw is (record {
    means = successors_are (semiautomaton P party) W _ sets (initial_is W) λ q a t h g. edges q a t h g (decided (ltb t P.n));
    fit = record { states = states; letters = letters; room = rw l.size (size_le states letters); below = l.below };
    starts_fit = set_of_lt _ _;
  })
    where
      edges : (q a t : ℕ) → q < P.n → a < P.m → (ltb t P.n ≡ true) ⊎ (ltb t P.n ≡ false)
          → has (get_or sets (place P.m q a) 0) t ≡ (semiautomaton P party).edge q a t
      edges q a t h g (inl e) = l.edges q a t h g (ltb-true t P.n e)
      edges q a t h g (inr e) =
          let high : P.n ≤ t = ltb-false t P.n e in
          let none : (semiautomaton P party).edge q a t ≡ false = not_so _ (λ d. omega (arith, W.to_lt q a t d)) in
          has_high P.n _ t (l.below _ (place_lt P.n P.m q a h g)) high ∙ sym none

-- WHAT LOADING ANSWERS

module _ (plan : List ℕ) (party : ℕ) {h : Header} (is : h ≡ header_of plan) where
  pub loads_header : (r : Refusal) → number_of r ≡ first_of (header_checks (length plan) h) → number_of r ≡ refusal_of (asked plan party)
  loads_header r e = let e = rw is at e in e ∙ refused_header plan party (λ z. number_some r (e ∙ z))

  module _ (clear : first_of (header_checks (length plan) h) ≡ 0) where
    -- where 1 to 4 do not apply, 5 to 7 and 16 are what is left
    left : first_of (part_checks (parsed plan) ++ (named plan party ∷ [])) ≡ refusal_of (asked plan party)
    left = refused_parts plan party (rw is at clear)

    pub loads_start : start_off (parsed_by h plan) ≡ true → 5 ≡ refusal_of (asked plan party)
    loads_start a = rw (rw is at a) at left

    module _ {set : ℕ} (starts : StartsEntered (parsed_by h plan) (Ok set)) where
      no_start : start_off (parsed plan) ≡ false
      no_start = rw is at starts.0

      pub loads_line : line_off (parsed_by h plan) ≡ true → 6 ≡ refusal_of (asked plan party)
      loads_line b = rw (no_start, rw is at b) at left

      module _ {sets : List ℕ} {l : Lines} (lines : LinesRead (parsed_by h plan) party sets false l) where
        no_line : line_off (parsed plan) ≡ false
        no_line = rw is at (sym lines.off_is)

        -- so that the other parties' lines can be looked at
        pub lines_on : line_off (parsed_by h plan) ≡ false
        lines_on = sym lines.off_is

        -- whether a line stands twice: one of this party, or one of another up to the highest
        twice_is : {elsewhere : Bool} → elsewhere ≡ any (l.highest + 1) (λ q. not (eqb q party) && twice_of (parsed_by h plan) q)
            → (l.twice || elsewhere) ≡ line_twice (parsed plan)
        twice_is e =
            let lines = rw is at lines in
            let e = rw is at e in
            rw (e, lines.twice_is refl) (twice_parted (parsed plan) party l.highest lines.none_higher)

        pub loads_twice : l.twice ≡ true → 7 ≡ refusal_of (asked plan party)
        loads_twice c = rw (no_start, no_line, ← twice_is refl, c) at left

        module _ {elsewhere : Bool} (others : elsewhere ≡ any (l.highest + 1) (λ q. not (eqb q party) && twice_of (parsed_by h plan) q)) where
          pub loads_elsewhere : elsewhere ≡ true → 7 ≡ refusal_of (asked plan party)
          loads_elsewhere c = rw (no_start, no_line, ← twice_is others, c, or-true) at left

          module _ (once : l.twice ≡ false) (none : elsewhere ≡ false) {off : Bool} (named-off : off ≡ party_off h.edition party) where
            -- 16, of a line or of the party that is named
            sixteen : cond (ltb max_party l.highest || off) 16 0 ≡ refusal_of (asked plan party)
            sixteen =
                let high : ltb max_party l.highest ≡ party_high (parsed plan) = rw is at lines.high_is in
                let named : off ≡ party_off (header_of plan).edition party = rw is at named-off in
                either (ltb max_party l.highest) off
                ∙ rw (no_start, no_line, ← twice_is others, once, none, ← high, ← named) at left
              where
                either : (b c : Bool) → ◌≡◌ {A = ℕ} (cond (b || c) 16 0) (cond b 16 (cond c 16 0))
                either true c = refl
                either false c = refl

            pub loads_party : (ltb max_party l.highest || off) ≡ true → 16 ≡ refusal_of (asked plan party)
            loads_party d = rw d at sixteen

            pub loads_plan : (ltb max_party l.highest || off) ≡ false
                → Loads (asked plan party) (counts_of (header_of plan)) sets (Ok (record { counts = counts_of h; starts = set }))
            loads_plan d =
                let passes = sym (rw d at sixteen) in
                let w = ((asked_passes plan party).0 passes).0 in
                let r = well_formed_range plan w in
                rw is (
                  passes,
                  holds (parsed plan) party (well_formed_within plan w party) r.n_high r.m_high (rw is at starts.1) (rw is at lines),
                  refl,
                  lines.size,
                )
