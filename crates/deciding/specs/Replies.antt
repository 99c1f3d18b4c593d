-- The calls' answers as document 01's replies: a refusal's number, a booked position and stake, or that none was booked.
-- Assumes nothing.
use Rattle.std.specs.Prelude.{Bool, true, false, Option, None, Some, Result, Ok, Err}
use Rattle.refusals.specs.Named.{number_of}
use Rattle.refusals.specs.declared.Refusal.{Refusal}
use Rattle.streaming.specs.Calls.{Reply, refused, resolved, nothing}
use Rattle.deciding.specs.declared.Resolution.{Resolution}

abbrev pub Answer : Type 0
Answer = Result (Option Resolution) Refusal

abbrev pub said : Answer → Reply
said (Err r) = refused (number_of r)
said (Ok (Some x)) = resolved x.position x.state
said (Ok None) = nothing

-- The reply is a refusal.
abbrev pub is_refusal : Reply → Bool
is_refusal (refused number) = true
is_refusal (resolved i x) = false
is_refusal nothing = false
