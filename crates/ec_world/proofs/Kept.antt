-- One more line.
use Rattle.std.proofs.Common.{◌≡◌, ◌+◌, ℕ, zero, suc, List, [], ◌∷◌, ◌++◌, length, take, drop, refl, sym, ap, subst, ◌∙◌, arith}
use Rattle.ec_history.specs.declared.shown.Shown.{Shown}
use Rattle.ec_history.specs.declared.watch.Watch.{Watch}
use Rattle.ec_watch.specs.Watches.{AreWatched}
use Rattle.ec_world.specs.Noted.{Kept}

length-push : (xs : List Shown) (x : Shown) → length (xs ++ x ∷ []) ≡ length xs + 1
length-push [] x = refl
length-push (y ∷ xs) x = let e : length (xs ++ x ∷ []) ≡ length xs + 1 = length-push xs x in omega (arith, e)

pub next_kept : (ws new : List Watch) (past longer : List Shown) (line : Shown) (count : ℕ) → Kept ws past count → longer ≡ past ++ line ∷ [] → (AreWatched ws past → AreWatched new (past ++ line ∷ [])) → Kept new longer (count + 1)
next_kept ws new past longer line count k e notes = record {
  watched = subst (AreWatched new) (sym e) (notes k.watched);
  count_is = ap (λ n. n + 1) k.count_is ∙ sym (length-push past line) ∙ ap length (sym e);
}

-- what was written over a row of the same length
pub written_over : (new old : List Watch) → length old ≡ length new → take (length new) (new ++ drop (length new) old) ≡ new
written_over [] old e = refl
written_over (x ∷ xs) [] e = absurd (omega (arith, e))
written_over (x ∷ xs) (y ∷ ys) e = let shorter : length ys ≡ length xs = omega (arith, e) in ap (λ (ws : List Watch). x ∷ ws) (written_over xs ys shorter)
