-- Parties (document 02, W-207): which may be asked for, and what a plan means for one of them, beside plans of edition 1;
-- proofs/Parties.antt has the proofs.
-- Assumes nothing.
use Rattle.std.specs.Prelude.{ℕ, ◌≤◌, ◌<◌, true, false, ◌≡◌, ◌↔◌, List}
use Rattle.semiautomata.specs.Predictability.{Rivals, Lookahead}
use Rattle.plan.specs.Plan.{Plan, line, is_start, is_line, max_party, party_off}
use Rattle.plan.specs.Asked.{refusal_of, Passes}
use Rattle.plan.specs.Bytes.{header_of, parsed, meaning, asked, refusal, WellFormed}

-- Q is of edition 1 and has P's n, m and starts, and of P's lines exactly those of one party, in whatever order.
pub record Alone (P : Plan) (party : ℕ) (Q : Plan) : Type 0 where
  pub edition : Q.edition ≡ 1
  pub n : Q.n ≡ P.n
  pub m : Q.m ≡ P.m
  pub starts : (s : ℕ) → is_start Q s ≡ is_start P s
  pub lines : (s a t : ℕ) → is_line Q (line s a t 0) ≡ is_line P (line s a t party)

-- No line belongs to the party.
abbrev pub Lineless : Plan → ℕ → Type 0
Lineless P party = (i : ℕ) → i < P.e → ¬ ((P.line i).party ≡ party)

pub record Theorems (plan : List ℕ) (party : ℕ) : Type 0 where
  -- a party may be asked for of a well-formed plan, if 16 does not apply to it; of edition 1 that is party 0 alone, and party 0 always may
  pub passes : Passes (asked plan party) ↔ (WellFormed plan × (party_off (header_of plan).edition party ≡ false))
  pub passes_1 : (header_of plan).edition ≡ 1 → Passes (asked plan party) ↔ (WellFormed plan × (party ≡ 0))
  pub passes_2 : (header_of plan).edition ≡ 2 → Passes (asked plan party) ↔ (WellFormed plan × (party ≤ max_party))
  -- 16 of the party comes behind all that is refused of the bytes
  pub bytes_first : ¬ WellFormed plan → refusal_of (asked plan party) ≡ refusal plan
  pub then_16 : WellFormed plan → party_off (header_of plan).edition party ≡ true → refusal_of (asked plan party) ≡ 16
  pub zero : refusal_of (asked plan 0) ≡ refusal plan
  -- the plan means for the party what any edition 1 plan with those lines alone means, so that it has the same look-ahead, or none, and
  -- the same needs (of the calls: plan_calls/specs/Parties)
  pub alone : (other : List ℕ) → Alone (parsed plan) party (parsed other) → meaning other 0 ≡ meaning plan party
  -- for a party without lines no code leads anywhere: the look-ahead is 0, or 1 if there are two or more starts
  pub no_edge : Lineless (parsed plan) party → (s a t : ℕ) → (meaning plan party).edge s a t ≡ false
  pub lineless_single : Lineless (parsed plan) party → ((s t : ℕ) → ¬ Rivals (is_start (parsed plan)) s t) → Lookahead (meaning plan party) 0
  pub lineless_several : Lineless (parsed plan) party → (s t : ℕ) → Rivals (is_start (parsed plan)) s t → Lookahead (meaning plan party) 1
