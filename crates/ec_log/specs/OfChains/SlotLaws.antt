-- Laws on the places of held operations. Crates above cite them.
use Rattle.std.proofs.Common.{◌≡◌, ◌<◌, ◌+◌, ◌∙◌, sym, ap, arith, ℕ, suc, length, drop, drop-cons, get_or, Option}
use Rattle.ec_volume.specs.declared.update.Update.{Update}
use Rattle.ec_log.specs.OfChains.Slots.{Slots, with_one, live}

-- the next place
pub live-next : (ss : Slots) (i : ℕ) (x : ℕ × Option Update) → i < length ss → x ≡ get_or ss i x → live (drop i ss) ≡ with_one x.0 x.1 (live (drop (i + 1) ss))
live-next ss i x l is = ap live (drop-cons ss i x l) ∙ ap (λ (y : ℕ × Option Update). with_one y.0 y.1 (live (drop (suc i) ss))) (sym is) ∙ ap (λ k. with_one x.0 x.1 (live (drop k ss))) (next i)
  where
    next : (i : ℕ) → suc i ≡ i + 1
    next i = omega arith
