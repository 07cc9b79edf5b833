-- Calls under way.
use Rattle.std.specs.Prelude.{◌++◌, ℕ, List}
use Rattle.ec_plain.specs.declared.call.Call.{Call}
use Rattle.ec_protocol.specs.declared.clerk.Out.{Out}
use Rattle.ec_protocol.specs.World.{Moving, with_world, add_call, show_waits, come_out}

-- what a call shows once it has begun; what came out of its clerk's start stands before
abbrev pub call_begun : ℕ → ℕ → ℕ → Call → List Out → List Out → Moving → Moving
call_begun c n line cl before outs m = come_out c (before ++ outs) (show_waits c n line cl outs (with_world (add_call c n line cl) m))
