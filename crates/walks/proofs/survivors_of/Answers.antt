use Rattle.walks.proofs.Words.{survivors_none}
use Rattle.walks.proofs.survivors_of.Goals as goal

pub returns-then-word-eq0 : goal.returns-then-word-eq0
returns-then-word-eq0 c = λ _. survivors_none _ _ c.requires.0 c.args.word.now c.if-word-eq0.true
