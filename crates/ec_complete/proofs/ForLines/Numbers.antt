-- The numbers of lines that were shown, below that of the next line.
use Rattle.std.proofs.Common.{◌≡◌, refl, arith, ◌<◌, ◌+◌, ℕ, Bool, true, false, ◌||◌, List, [], ◌∷◌}
use Rattle.std.specs.List.{list_any}
use Rattle.ec_plain.specs.declared.call.Call.{Call}
use Rattle.ec_history.specs.Placing.{EachLine, is_numbered}
use Rattle.ec_history.specs.declared.shown.Shown.{Shown}
use Rattle.ec_history.specs.declared.shown.Shown.TheVariants as show
use Rattle.ec_lawful.specs.Calls.{IsOf}
use Rattle.ec_base.proofs.Numbers.{other-number}

-- the call is of an earlier line
abbrev pub Below : ℕ → ℕ → ℕ → Call → Type 0
Below n l c cl = l < n

of-other : (n : ℕ) (s : Shown) → IsOf (Below n) s → is_numbered n s ≡ false
of-other n (show.Waits l c cl) p = other-number l n p
of-other n (show.Answered l c cl a op) p = other-number l n p
of-other n (show.Durable c ns) p = refl
of-other n (show.Ended c ns) p = refl
of-other n (show.Unseen c) p = refl
of-other n (show.Told c ns) p = refl
of-other n (show.Crashed c) p = refl
of-other n show.Stopped p = refl
of-other n show.Started p = refl
of-other n show.Nothing p = refl
of-other n show.Unsettled p = refl
of-other n (show.Bad k m) p = refl
of-other n (show.DiskBad k) p = refl
of-other n (show.Limit name k) p = refl
of-other n (show.Spent k) p = refl

of-later : (n : ℕ) (s : Shown) → IsOf (Below n) s → IsOf (Below (n + 1)) s
of-later n (show.Waits l c cl) p = omega (arith, p)
of-later n (show.Answered l c cl a op) p = omega (arith, p)
of-later n (show.Durable c ns) p = tt
of-later n (show.Ended c ns) p = tt
of-later n (show.Unseen c) p = tt
of-later n (show.Told c ns) p = tt
of-later n (show.Crashed c) p = tt
of-later n show.Stopped p = tt
of-later n show.Started p = tt
of-later n show.Nothing p = tt
of-later n show.Unsettled p = tt
of-later n (show.Bad k m) p = tt
of-later n (show.DiskBad k) p = tt
of-later n (show.Limit name k) p = tt
of-later n (show.Spent k) p = tt

neither : (a b : Bool) → a ≡ false → b ≡ false → (a || b) ≡ false
neither false b p q = q
neither true b p q = absurd (grind (arith, p))

pub unshown : (n : ℕ) (ss : List Shown) → EachLine (IsOf (Below n)) ss → list_any (is_numbered n) ss ≡ false
unshown n [] a = refl
unshown n (s ∷ ss) a = neither (is_numbered n s) (list_any (is_numbered n) ss) (of-other n s a.0) (unshown n ss a.1)

pub later : (n : ℕ) (ss : List Shown) → EachLine (IsOf (Below n)) ss → EachLine (IsOf (Below (n + 1))) ss
later n [] a = tt
later n (s ∷ ss) a = (of-later n s a.0, later n ss a.1)
