-- The starts one by one: each is a state that is not there yet, or 5 applies.
use Rattle.std.proofs.Common.{◌≡◌, ℕ, ◌+◌, ◌-◌, ◌<◌, List, get_or, take, drop, refl, sym, ◌∙◌, arith}
use Rattle.std.proofs.lemmas.List.{get_or-drop, get_or-take}
use Rattle.plan.specs.declared.Header.{Header}
use Rattle.plan.specs.Bytes.{parsed_by}
use Rattle.plan.specs.Listed.{listed}
use Rattle.plan.proofs.Entering.{starts_none, starts_high, starts_again, starts_next}
use Rattle.plan.proofs.Lists.enter_starts.Goals as goal
use Rattle.plan.proofs.Lists.enter_starts.Goals.{then-self-s-via-then-self-s, then-self-s-via-else-self-s+then-contains}

-- a byte of the starts' part is the start at its place
start_is : (plan : List ℕ) (h : Header) (i : ℕ) → i < h.p
    → get_or (take (h.starts + h.p - h.starts) (drop h.starts plan)) i 0 ≡ (parsed_by h plan).start i
start_is plan h i g = get_or-take (h.starts + h.p - h.starts) (drop h.starts plan) i 0 (omega arith) ∙ get_or-drop h.starts plan i 0

pub loop-start-init : goal.loop-start-init
loop-start-init c = starts_none (listed c.args.self.now)

pub returns-then-self-s : goal.returns-then-self-s
returns-then-self-s c =
    let a = c.args.self.now in
    let P = listed a in
    let few : c.loop-start.start-index < a.h.p = omega arith in
    let is = start_is a.plan.now a.h c.loop-start.start-index few in (
      elim c.then-self-s.branch [
        | then-self-s-via-then-self-s w ↦ starts_high P c.loop-start.invariant is few w.if-self-s.true
        | then-self-s-via-else-self-s+then-contains w ↦
            starts_again P c.loop-start.invariant is few w.if-self-s.false (sym w.contains.ensures ∙ w.if-contains.true)
      ],
      refl,
    )

pub loop-start-preserved : goal.loop-start-preserved
loop-start-preserved c =
    let a = c.args.self.now in
    let few : c.loop-start.start-index < a.h.p = omega arith in
    let is = start_is a.plan.now a.h c.loop-start.start-index few in
    starts_next (listed a) c.loop-start.invariant is a.sound.states c.if-self-s.false (sym c.contains.ensures ∙ c.if-contains.false)
