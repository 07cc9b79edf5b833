-- How a step ends, for the answers of the node's functions.
use Rattle.std.proofs.Common.{◌≡◌, ◌+◌, ◌≤◌, ℕ, List, [], ◌⊎◌, Bool, true, false, ◌||◌, map, take, Option, None, Some, MatchBool, IfSome, refl, sym, ap, ◌∙◌, subst, inl, inr, arith}
use Rattle.ec_base.specs.declared.ids.Age.{Age}
use Rattle.ec_protocol.specs.declared.clerk.Out.{Out}
use Rattle.ec_link.specs.declared.link.Sent.{Sent}
use Rattle.ec_link.specs.declared.link.Sent.TheVariants as ended
use Rattle.ec_link.specs.Links.{added}
use Rattle.ec_link.specs.LinkAnswers.{failed}
use Rattle.ec_outs.specs.Outs.{encoded, sends}
use Rattle.ec_clerknode.specs.Run.{IsSaid}
use Rattle.ec_clerknode.specs.declared.fault.NodeFault.{NodeFault}
use Rattle.ec_clerknode.specs.declared.fault.NodeFault.TheVariants as fault
use Rattle.ec_clerknode.specs.Closed.{IsMark, StopsTurn, is_wanting}

pub kept_or : {X : Type 0} (r : Bool) (new more : List X) → MatchBool r (new ≡ more) (new ≡ []) → (new ≡ more) ⊎ (new ≡ [])
kept_or true new more h = inl h
kept_or false new more h = inr h

pub got_said : (o p : Option (List (List ℕ))) (n : ℕ) (outs shot : List Out) → p ≡ added o (map encoded (take n (sends outs))) → outs ≡ shot → p ≡ added o (map encoded (take n (sends shot)))
got_said o p n outs shot e same = e ∙ ap (λ l. added o (map encoded (take n (sends l)))) same

-- a turn ends with its mark
pub stops_marked : (boot : Option Age) (end : Sent) (marked : Option NodeFault) (f : NodeFault) → IfSome marked IsMark → boot ≡ None → marked ≡ Some f → StopsTurn boot end marked f
stops_marked boot end marked fault.Net is none e = (none, inr e)
stops_marked boot end marked (fault.Peer place) is none e = (none, e)
stops_marked boot end marked (fault.Long n) is none e = (none, e)
stops_marked boot end marked (fault.OldBoot age) is none e = absurd (subst (λ o. IfSome o IsMark) e is)
stops_marked boot end marked (fault.Spent counter) is none e = (none, e)
stops_marked boot end marked fault.NoMemory is none e = tt

apart : ended.NoMemory ≡ ended.Done → ⊥
apart e = cc e

-- How a step ends, where the answers were kept or not.
module _ (kept : Bool) (sent end : Sent) (all : kept ≡ true → end ≡ sent) (none : kept ≡ false → end ≡ ended.NoMemory) where
  pub done_kept : end ≡ ended.Done → sent ≡ ended.Done
  done_kept e = on kept refl where
    on : (b : Bool) → kept ≡ b → sent ≡ ended.Done
    on true is = sym (all is) ∙ e
    on false is = absurd (apart (sym (none is) ∙ e))

  pub failed_kept : (m n : ℕ) → failed sent + m ≤ n → failed end + m ≤ n
  failed_kept m n le = on kept refl where
    on : (b : Bool) → kept ≡ b → failed end + m ≤ n
    on true is = subst (λ s. failed s + m ≤ n) (sym (all is)) le
    on false is = let zero : failed end ≡ 0 = ap failed (none is) in omega arith

  -- where memory wasn't wanting, all was kept
  pub told_kept : is_wanting end ≡ false → kept ≡ true
  told_kept e = on kept refl where
    on : (b : Bool) → kept ≡ b → kept ≡ true
    on true is = is
    on false is = absurd (cc (sym (ap is_wanting (none is)) ∙ e))

-- whether memory was wanting in a step
pub said_kept : (end : Sent) → is_wanting end ≡ false → IsSaid end
said_kept ended.Done e = tt
said_kept ended.Failed e = tt
said_kept ended.NoMemory e = absurd (cc e)

pub wanted_kept : (end : Sent) → is_wanting end ≡ true → end ≡ ended.NoMemory
wanted_kept ended.Done e = absurd (cc e)
wanted_kept ended.Failed e = absurd (cc e)
wanted_kept ended.NoMemory e = refl

pub or_false : (a b : Bool) → (a || b) ≡ false → a ≡ false
or_false true b e = absurd (cc e)
or_false false b e = refl
