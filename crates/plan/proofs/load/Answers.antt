-- The first check that applies, in their order; where none does, what is entered is what is meant.
use Rattle.std.proofs.lemmas.Result.{err_from_is_err_and}
use Rattle.plan.proofs.Refusals.{refused_short, header_clear}
use Rattle.plan.proofs.Loading.{loads_header, loads_start, loads_line, lines_on, loads_twice, loads_elsewhere, loads_party, loads_plan}
use Rattle.plan.proofs.load.Goals as goal
use Rattle.plan.proofs.load.Goals.{then-lines-via-then-lines, then-lines-via-else-lines+then-twice_elsewhere}

pub returns-then-plan-lt16 : goal.returns-then-plan-lt16
returns-then-plan-lt16 c = refused_short _ _ c.if-plan-lt16.true

pub returns-in_err-check_header : goal.returns-in_err-check_header
returns-in_err-check_header c =
    let p = err_from_is_err_and c.from_residual.result c.from_residual.ensures.1 in
    rw (p.1, p.2) (loads_header _ _ c.header_of-h.ensures _ c.in_err-check_header.ensures)

pub invariant_of-lists : goal.invariant_of-lists
invariant_of-lists c = record { sound = (header_clear _ _ c.in_ok-check_header.ensures).1 }

pub returns-in_err-starts : goal.returns-in_err-starts
returns-in_err-starts c =
    let p = err_from_is_err_and c.from_residual-in_err-starts.result c.from_residual-in_err-starts.ensures.1 in
    let (off, is) = c.in_err-starts.ensures in
    rw (p.1, p.2, is) (loads_start _ _ c.header_of-h.ensures c.in_ok-check_header.ensures off)

pub enter_lines-requires : goal.enter_lines-requires
enter_lines-requires c = c.requires

pub returns-in_err-lines : goal.returns-in_err-lines
returns-in_err-lines c =
    let p = err_from_is_err_and c.from_residual-in_err-lines.result c.from_residual-in_err-lines.ensures.1 in
    let (off, is) = c.in_err-lines.ensures in
    rw (p.1, p.2, is) (loads_line _ _ c.header_of-h.ensures c.in_ok-check_header.ensures c.in_ok-starts.ensures off)

pub twice_elsewhere-requires : goal.twice_elsewhere-requires
twice_elsewhere-requires c =
    lines_on _ _ c.header_of-h.ensures c.in_ok-check_header.ensures c.in_ok-starts.ensures c.in_ok-lines.ensures

pub returns-then-lines : goal.returns-then-lines
returns-then-lines c = elim c.then-lines.branch [
  | then-lines-via-then-lines w ↦
      loads_twice _ _ c.header_of-h.ensures c.in_ok-check_header.ensures c.in_ok-starts.ensures c.in_ok-lines.ensures w.if-lines.true
  | then-lines-via-else-lines+then-twice_elsewhere w ↦
      loads_elsewhere _ _ c.header_of-h.ensures c.in_ok-check_header.ensures c.in_ok-starts.ensures c.in_ok-lines.ensures
      w.twice_elsewhere.ensures w.if-twice_elsewhere.true
]

pub returns-then-lines-party_off : goal.returns-then-lines-party_off
returns-then-lines-party_off c =
    loads_party _ _ c.header_of-h.ensures c.in_ok-check_header.ensures c.in_ok-starts.ensures c.in_ok-lines.ensures
    c.twice_elsewhere.ensures c.if-lines.false c.if-twice_elsewhere.false c.party_off.ensures c.if-lines-party_off.true

pub returns : goal.returns
returns c =
    loads_plan _ _ c.header_of-h.ensures c.in_ok-check_header.ensures c.in_ok-starts.ensures c.in_ok-lines.ensures
    c.twice_elsewhere.ensures c.if-lines.false c.if-twice_elsewhere.false c.party_off.ensures c.if-lines-party_off.false
