-- The least message that isn't kept from some clerks.
use Rattle.std.proofs.Common.{◌≡◌, ℕ, refl, sym, ap, subst, ◌∙◌, Bool, true, false, not, ◌&&◌, List, [], ◌∷◌, Option, None, Some, is_some}
use Rattle.ec_base.specs.Tables.{Table, at, first, keys}
use Rattle.ec_wire.specs.RowLaws.{key_of}
use Rattle.ec_wire.specs.declared.msg.MsgKind.{MsgKind}
use Rattle.ec_protocol.specs.World.{is_deliverable}
use Rattle.ec_protocol.specs.OfPool.Goings.{due_but, going, is_kept_from}
use Rattle.ec_protocol.specs.OfPool.Insides.{AreLinked, passes}
use Rattle.ec_protocol.specs.OfPool.Pools.{Pooled, with_pool}
use Rattle.ec_protocol.specs.declared.pool.links.Link.{Link}
use Rattle.ec_protocol.specs.declared.world.Sent.{Sent}
use Rattle.ec_protocol.specs.declared.world.World.{World}
use Rattle.ec_protocol.proofs.OfPool.Laws.{passes_as}

-- whether a pending message is due
abbrev is_due : List ℕ → Bool → List ℕ → Table Sent → ℕ × Link → Bool
is_due cut running held es p = passes cut running p.1 && not (is_kept_from held (going (at p.0 es)))

due_but_is : (w : World) (running : Bool) (held : List ℕ) (es : Table Sent) (ps : Table Link) → is_some w.server ≡ running → AreLinked es ps
    → first (λ n. is_deliverable w (at n es) && not (is_kept_from held (going (at n es)))) (keys ps) ≡ key_of (first (is_due w.cut running held es) ps)
due_but_is w running held es [] r h = refl
due_but_is w running held es (p ∷ ps) r h =
    ap (λ b. elim (b && not (is_kept_from held (going (at p.0 es)))) as (λ _. Option ℕ) [ true ↦ Some p.0 | false ↦ first (λ n. is_deliverable w (at n es) && not (is_kept_from held (going (at n es)))) (keys ps) ]) (passes_as w running (at p.0 es) p.1 r h.0)
    ∙ go (is_due w.cut running held es p) (due_but_is w running held es ps r h.1)
  where
    go : (b : Bool) → first (λ n. is_deliverable w (at n es) && not (is_kept_from held (going (at n es)))) (keys ps) ≡ key_of (first (is_due w.cut running held es) ps)
        → elim b as (λ _. Option ℕ) [ true ↦ Some p.0 | false ↦ first (λ n. is_deliverable w (at n es) && not (is_kept_from held (going (at n es)))) (keys ps) ] ≡ key_of (elim b as (λ _. Option (ℕ × Link)) [ true ↦ Some p | false ↦ first (is_due w.cut running held es) ps ])
    go true rest = refl
    go false rest = rest

pub due_but_of : (sent : ℕ) (counts : List ((ℕ × MsgKind) × ℕ)) (es : Table Sent) (ps : Table Link) (cut : List ℕ) (p : Pooled) → record { sent = sent; counts = counts; pool = es; pending = keys ps; cut = cut } ≡ p
    → (running : Bool) (held : List ℕ) (r : Option ℕ) (ds : List ℕ) (qs : Table Link) → qs ≡ ps → ds ≡ cut → r ≡ key_of (first (is_due ds running held es) qs) → AreLinked es ps
    → (w : World) → is_some w.server ≡ running → due_but held (with_pool p w) ≡ r
due_but_of sent counts es ps cut p v running held r ds qs a b e h w run =
    subst (λ q. due_but held (with_pool q w) ≡ r) v
    (due_but_is (with_pool (record { sent = sent; counts = counts; pool = es; pending = keys ps; cut = cut }) w) running held es ps run h ∙ (λ i. key_of (first (is_due (sym b i) running held es) (sym a i))) ∙ sym e)
