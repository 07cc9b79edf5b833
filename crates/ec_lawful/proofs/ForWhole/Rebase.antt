-- What lines tell, over bases with the same fresh ids at the places so far.
use Rattle.std.proofs.Common.{◌≡◌, refl, sym, ap, subst, ◌∙◌, arith, ◌≤◌, ◌+◌, ℕ, T, true, map, length, List, [], ◌∷◌, ◌++◌}
use Rattle.std.proofs.lemmas.List.{length-append}
use Rattle.ec_volume.specs.Volume.{Images}
use Rattle.ec_history.specs.History.{Base, History, Op, Each, Throughout, of_start, issued, Covers}
use Rattle.ec_history.specs.Legal.{IsLegal}
use Rattle.ec_history.specs.Lines.{AreCovered, IsCovered}
use Rattle.ec_history.specs.Placing.{place}
use Rattle.ec_history.specs.declared.entry.Entry.{Entry}
use Rattle.ec_history.specs.declared.entry.Entry.TheVariants as entry
use Rattle.ec_history.specs.declared.shown.Shown.{Shown}
use Rattle.ec_history.proofs.OfLaws.ForPlacing.Places.{places-within}
use Rattle.ec_coherence.proofs.ForCommits.Rebased.{Alike, alike-back, covers-same, issued-same, legal-same, throughout-map}
use Rattle.ec_history.specs.OfLaws.Accounts.{IsAccounted, LinesTell}
use Rattle.ec_lawful.specs.Headline.{AreLawful, FrontsAreLawful}

-- the ids are the same at all places of these lines
abbrev pub SameIds : (ℕ → ℕ) → (ℕ → ℕ) → List Shown → Type 0
SameIds f g ss = (p : ℕ) → p ≤ length ss → f p ≡ g p

pub alike : (f g : ℕ → ℕ) (ss : List Shown) → SameIds f g ss → Alike f g (place ss)
alike f g ss same = go (place ss) (places-within ss)
  where
    go : (h : History) → Each (λ p. (1 ≤ p) × (p ≤ length ss)) (map (λ e. e.0) h) → Alike f g h
    go [] w = tt
    go (e ∷ h) w = (same e.0 (w.0).1, go h w.1)

module _ (v : Images) (f g : ℕ → ℕ) (ss : List Shown) (same : SameIds f g ss) where
  abbrev one : Base
  one = record { volume = v; fresh = f }

  abbrev two : Base
  two = record { volume = v; fresh = g }

  pub legal-by : (most : ℕ) → IsLegal one most (place ss) → IsLegal two most (place ss)
  legal-by most t = legal-same v f g most (place ss) (alike f g ss same) t

  covered-by : (past : History) (e : ℕ × Entry) → Alike f g past → f e.0 ≡ g e.0 → IsCovered one ss past e → IsCovered two ss past e
  covered-by past (p, entry.Call c b l begun cl a op) x q k = λ n z. k n (covers-same v g f past (p, entry.Call c b l begun cl a op) c b n (alike-back f g past x) z)
  covered-by past (p, entry.Loss c b ns) x q k = tt

  pub covered-at : AreCovered one ss → AreCovered two ss
  covered-at t = throughout-map (λ e. f e.0 ≡ g e.0) (IsCovered one ss) (IsCovered two ss) covered-by [] (place ss) tt (alike f g ss same) t

  pub tells-by : LinesTell one ss → LinesTell two ss
  tells-by t = record {
    accounts = λ c b. subst (Each (λ k. of_start c b k ≡ true → IsAccounted c b k.number ss)) (issued-same v f g (place ss) (alike f g ss same)) (t.accounts c b);
    apart = t.apart;
    counted = t.counted;
    covered = covered-at t.covered;
  }

-- Each front of the lines stays lawful.
module _ (v : Images) (f g : ℕ → ℕ) where
  pub fronts-by : (most : ℕ) (ss : List Shown) → SameIds f g ss → FrontsAreLawful (record { volume = v; fresh = f }) most ss → FrontsAreLawful (record { volume = v; fresh = g }) most ss
  fronts-by most ss same t front rest q = record { placed = old.placed; history = legal-by v f g front ids most old.history; fsync = covered-at v f g front ids old.fsync }
    where
      old : AreLawful (record { volume = v; fresh = f }) most front
      old = t front rest q

      shorter : (a b n : ℕ) → n ≡ a + b → (p : ℕ) → p ≤ a → p ≤ n
      shorter a b n e p x = omega (arith, e, x)

      ids : SameIds f g front
      ids p le = same p (shorter (length front) (length rest) (length ss) (sym (ap length q) ∙ length-append front rest) p le)
