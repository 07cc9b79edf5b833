-- A renaming that gives ids that were made their places.
use Rattle.std.proofs.Common.{◌≡◌, refl, sym, ap, subst, ◌∙◌, arith, ◌≤◌, ◌+◌, ◌==◌, not, ℕ, false, T, List, [], ◌∷◌}
use Rattle.ec_volume.specs.Image.{is_dir, is_gone}
use Rattle.ec_volume.specs.Update.{root}
use Rattle.ec_volume.specs.Volume.{Images, WellFormed}
use Rattle.ec_volume.specs.declared.image.Image.{Image}
use Rattle.ec_volume.specs.declared.image.Image.TheVariants.{Gone, File, Dir}
use Rattle.ec_history.specs.History.{Each}
use Rattle.ec_history.specs.OfLaws.Renaming.{IsRenaming}
use Rattle.ec_history.proofs.OfLaws.ForRenamed.Swap.{swap, swap-apart, swap-first, swap-other, swap-twice, unlike}
use Rattle.ec_base.proofs.Bools.{clash as live-gone}

module _ (v : Images) (f : ℕ → ℕ) (n : ℕ) where
  abbrev pub Good : List ℕ → Type 0
  Good [] = Rattle.std.specs.Prelude.⊤
  Good (p ∷ ps) = (1 ≤ p) × T (is_gone (v (f p))) × Each (λ q. ((f q == f p) ≡ false) × ((q == p) ≡ false)) ps × Good ps

  pub record Named (ps : List ℕ) : Type 0 where
    pub r : ℕ → ℕ
    pub i : ℕ → ℕ
    pub apart : (a b : ℕ) → (r a == r b) ≡ (a == b)
    pub back : (x : ℕ) → r (i x) ≡ x
    pub live : (x : ℕ) → T (not (is_gone (v x))) → r x ≡ x
    pub made : Each (λ q. r (f q) ≡ n + q) ps

  module _ (top : (x : ℕ) → T (not (is_gone (v x))) → x ≤ n) where
    module _ (p : ℕ) (ps : List ℕ) (m : Named ps) (least : 1 ≤ p) (gone : T (is_gone (v (f p)))) (others : Each (λ q. ((f q == f p) ≡ false) × ((q == p) ≡ false)) ps) where
      abbrev a : ℕ
      a = m.r (f p)

      abbrev b : ℕ
      b = n + p

      -- what is neither the id nor its place stays
      keeps : (x y : ℕ) → m.r x ≡ y → (x == f p) ≡ false → (y == n + p) ≡ false → swap a b (m.r x) ≡ y
      keeps x y e k l = ap (swap a b) e ∙ swap-other a b y (ap (λ z. z == a) (sym e) ∙ m.apart x (f p) ∙ k) l

      pub more : Named (p ∷ ps)
      more = record {
        r = λ x. swap a b (m.r x);
        i = λ x. m.i (swap a b x);
        apart = λ x y. swap-apart a b (m.r x) (m.r y) ∙ m.apart x y;
        back = λ x. ap (swap a b) (m.back (swap a b x)) ∙ swap-twice a b x;
        live = λ x l. keeps x x (m.live x l) (unlike x (f p) (λ e. live-gone (is_gone (v x)) l (subst (λ w. T (is_gone (v w))) (sym e) gone))) (below x (top x l) least);
        made = (swap-first a b, both ps others m.made);
      }
        where
          below : (x : ℕ) → x ≤ n → 1 ≤ p → (x == n + p) ≡ false
          below x l k = grind arith

          sums : (q : ℕ) → (q == p) ≡ false → (n + q == n + p) ≡ false
          sums q k = grind arith

          both : (qs : List ℕ) → Each (λ q. ((f q == f p) ≡ false) × ((q == p) ≡ false)) qs → Each (λ q. m.r (f q) ≡ n + q) qs → Each (λ q. swap a b (m.r (f q)) ≡ n + q) qs
          both [] o k = tt
          both (q ∷ qs) o k = (keeps (f q) (n + q) k.0 o.0.0 (sums q o.0.1), both qs o.1 k.1)

    pub named : (ps : List ℕ) → Good ps → Named ps
    named [] g = record { r = λ x. x; i = λ x. x; apart = λ a b. refl; back = λ x. refl; live = λ x l. refl; made = tt }
    named (p ∷ ps) g = more p ps (named ps g.3) g.0 g.1 g.2

  pub renames : WellFormed v → (ps : List ℕ) → (m : Named ps) → IsRenaming m.r
  renames formed ps m = record { apart = m.apart; root_stays = m.live root (dir-live (v root) formed.root_is_dir) }
    where
      dir-live : (i : Image) → T (is_dir i) → T (not (is_gone i))
      dir-live Gone d = d
      dir-live (File q s w bs) d = tt
      dir-live (Dir q s w es) d = tt
