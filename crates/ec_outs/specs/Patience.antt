-- Which wants rest, and how a clerk counts its losses.
use Rattle.std.specs.Prelude.{ℕ, ◌+◌, ◌-◌, ◌==◌, ◌||◌, min, Bool, true, false, List, [], ◌∷◌, length, if◌then◌else◌}
use Rattle.ec_wire.specs.declared.msg.Msg.{Msg}
use Rattle.ec_wire.specs.declared.msg.Msg.TheVariants as msg
use Rattle.ec_protocol.specs.declared.clerk.Out.{Out}
use Rattle.ec_protocol.specs.declared.clerk.Out.TheVariants as out
use Rattle.ec_outs.specs.Outs.{answers, sends}

-- a message that gives this object back
abbrev pub is_back_of : ℕ → Msg → Bool
is_back_of obj (msg.Back s e other n h) = other == obj
is_back_of obj _ = false

abbrev pub gives_back : ℕ → List Msg → Bool
gives_back obj [] = false
gives_back obj (m ∷ ms) = is_back_of obj m || gives_back obj ms

-- a want of an object that one of these messages gives back
abbrev pub is_again : List Msg → Msg → Bool
is_again said (msg.Want s e obj h last) = gives_back obj said
is_again said _ = false

abbrev pub some_again : List Msg → List Msg → Bool
some_again said [] = false
some_again said (m ∷ ms) = is_again said m || some_again said ms

-- what a call that waits had went back in this step, and is wanted again
abbrev pub is_loss : List Out → Bool
is_loss outs = some_again (sends outs) (sends outs)

-- a rest is shorter than two to the power of this many milliseconds
abbrev pub most_losses : ℕ
most_losses = 12

-- the count behind a step: each answer takes one off, and a loss adds one
abbrev pub losses_after : ℕ → List Out → ℕ
losses_after losses outs = if is_loss outs then min ((losses - length (answers outs)) + 1) most_losses else losses - length (answers outs)
