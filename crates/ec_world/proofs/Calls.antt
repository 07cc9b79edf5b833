-- Steps of clerks, by what came out of them.
use Rattle.std.proofs.Common.{◌≡◌, ◌+◌, ℕ, Bool, true, false, List, [], ◌++◌, Option, None, Some, refl, sym, ap, ◌∙◌}
use Rattle.std.specs.List.{list_any}
use Rattle.ec_base.specs.Tables.{at, put}
use Rattle.ec_plain.specs.declared.call.Call.{Call}
use Rattle.ec_history.specs.declared.shown.Shown.{Shown}
use Rattle.ec_history.specs.declared.shown.Shown.TheVariants as show
use Rattle.ec_protocol.specs.declared.clerk.Clerk.{Clerk}
use Rattle.ec_protocol.specs.declared.clerk.Out.{Out}
use Rattle.ec_protocol.specs.declared.world.World.{World}
use Rattle.ec_protocol.specs.declared.world.WorldFault.TheVariants as fault
use Rattle.ec_protocol.specs.Clerk.{Doing}
use Rattle.ec_protocol.specs.Clerk as clerk
use Rattle.ec_protocol.specs.World.{Moving, moving, fails, show_line, with_world, come_out, clerk_does, is_answer_to, show_waits, add_call, call_on, start_and_call, call, boot}
use Rattle.ec_world.specs.Calls.{call_begun}

abbrev pub ended : Clerk → List Out → Doing
ended k outs = record { clerk = k; outs = outs; spent = None }

abbrev pub with_clerk : ℕ → Clerk → World → World
with_clerk c k w = record w { clerks = put c k w.clerks }

pub does_is : (c : ℕ) (d : Doing) (after : Clerk) (outs : List Out) (w : World) → d ≡ ended after outs → clerk_does c d (moving w) ≡ come_out c outs (moving (with_clerk c after w))
does_is c d after outs w is = ap (λ (x : Doing). clerk_does c x (moving w)) is

-- Calls.

waits_put : (b : Bool) (c : ℕ) (k : Clerk) (s : Shown) (w : World) → with_world (with_clerk c k) (elim b [ true ↦ moving w | false ↦ show_line s (moving w) ]) ≡ elim b [ true ↦ moving (with_clerk c k w) | false ↦ show_line s (moving (with_clerk c k w)) ]
waits_put true c k s w = refl
waits_put false c k s w = refl

pub call_on_is : (c line : ℕ) (cl : Call) (before outs : List Out) (k after : Clerk) (w : World) → clerk.begin cl k ≡ ended after outs → call_on c line cl before k w ≡ call_begun c (k.calls + 1) line cl before outs (moving (with_clerk c after w))
call_on_is c line cl before outs k after w is =
    let n = k.calls + 1 in
    let on : Doing → Moving = λ d. elim d.spent [
      | Some s ↦ fails (fault.Spent s) w
      | None ↦ clerk_does c (record d { outs = before ++ d.outs }) (show_waits c n line cl d.outs (moving (add_call c n line cl w)))
    ] in
    ap on is ∙ ap (come_out c (before ++ outs)) (waits_put (list_any (is_answer_to n) outs) c after (show.Waits line c cl) (add_call c n line cl w))

pub call_runs : (c line : ℕ) (cl : Call) (k : Clerk) (w : World) → at c w.clerks ≡ Some k → call c line cl w ≡ call_on c line cl [] k w
call_runs c line cl k w is = ap (λ (o : Option Clerk). elim o [ Some k ↦ call_on c line cl [] k w | None ↦ start_and_call c line cl w ]) is

abbrev pub with_boot : ℕ → ℕ → World → World
with_boot c b w = record w { boots = put c b w.boots }

pub start_is : (c line b : ℕ) (cl : Call) (before : List Out) (k : Clerk) (w : World) → b ≡ boot c w + 1 → clerk.start c b ≡ ended k before → start_and_call c line cl w ≡ call_on c line cl before k (with_boot c b w)
start_is c line b cl before k w next is =
    let on : ℕ → Doing → Moving = λ b d. elim d.spent [ Some n ↦ fails (fault.Spent n) w | None ↦ call_on c line cl d.outs d.clerk (with_boot c b w) ] in
    ap (λ (b : ℕ). on b (clerk.start c b)) (sym next) ∙ ap (on b) is
