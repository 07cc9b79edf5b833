-- The images that the server has are sound, as messages carry them.
use Rattle.std.proofs.Common.{◌≡◌, refl, sym, ap, subst, ◌∙◌, ℕ, T, Bool, true, false, not, ◌||◌, cond, List, [], ◌∷◌, Some}
use Rattle.std.specs.Prelude.{◌==◌, map, filter}
use Rattle.std.proofs.lemmas.Bool.{eqb-true}
use Rattle.std.specs.List.{list_any}
use Rattle.std.specs.Ordering.{is_lt}
use Rattle.std.specs.FinMap.{is_sorted}
use Rattle.std.specs.FinMap.Entries.{below_all}
use Rattle.ec_volume.specs.Entries.{Entries, by_bytes, same_name, entry}
use Rattle.ec_volume.specs.Image.{is_gone, entries_of}
use Rattle.ec_volume.specs.Held.{is_held}
use Rattle.ec_volume.specs.Update.{member, distinct, is_sound}
use Rattle.ec_volume.specs.Volume.{Images, images, after, Fits, WellFormed}
use Rattle.ec_volume.specs.declared.image.Image.{Image}
use Rattle.ec_volume.specs.declared.image.Image.TheVariants.{Gone, File, Dir}
use Rattle.ec_history.specs.History.{Op, updates}
use Rattle.ec_history.proofs.OfLaws.ForPlacing.Pulled.{pulled-fit_alone}
use Rattle.ec_history.proofs.OfLaws.ForFormed.Entries.{same_name-self, same_name-is, same_name-swapped, no_entry}
use Rattle.ec_history.proofs.OfLaws.ForFormed.KeptFormed.{kept-formed, kept-held}
use Rattle.ec_wire.specs.Messages.{is_sound_image}
use Rattle.ec_coherence.specs.System.{System}
use Rattle.ec_coherence.specs.Log.{LogsAgree}
use Rattle.ec_coherence.specs.Images.{ImagesAgree}
use Rattle.ec_coherence.proofs.ForServer.Formed.{all-sound}
use Rattle.ec_coherence.proofs.ForServer.Lists.{each-fewer}
use Rattle.ec_base.proofs.Bools.{left as and_first, and-both as and_both, not-tied, right as and_next, none}

abbrev ids : Entries → List ℕ
ids es = map (λ e. e.1) es

off : (k m : List ℕ) → T (is_lt (by_bytes k m)) → same_name m k ≡ false
off k m h = same_name-swapped m k ∙ not-tied (by_bytes k m) h

-- a name that is found stands behind those that all names stand behind
name-above : (k m : List ℕ) (o : ℕ) (es : Entries) → T (below_all by_bytes k es) → entry es m ≡ Some o → T (is_lt (by_bytes k m))
name-above k m o [] b p = no_entry o p
name-above k m o (e ∷ es) b p = go (same_name m e.0) refl p (λ r. name-above k m o es (and_next (is_lt (by_bytes k e.0)) (below_all by_bytes k es) b) r)
  where
    go : (c : Bool) → same_name m e.0 ≡ c → cond c (Some e.1) (entry es m) ≡ Some o → (entry es m ≡ Some o → T (is_lt (by_bytes k m))) → T (is_lt (by_bytes k m))
    go true q r f = subst (λ n. T (is_lt (by_bytes k n))) (sym (same_name-is m e.0 q)) (and_first (is_lt (by_bytes k e.0)) (below_all by_bytes k es) b)
    go false q r f = f r

module _ (e : List ℕ × ℕ) (es : Entries) (s : T (is_sorted by_bytes (e ∷ es))) where
  behind : T (below_all by_bytes e.0 es)
  behind = and_first (below_all by_bytes e.0 es) (is_sorted by_bytes es) s

  later : (m : List ℕ) (o : ℕ) → entry es m ≡ Some o → entry (e ∷ es) m ≡ Some o
  later m o p = ap (λ b. cond b (Some e.1) (entry es m)) (off e.0 m (name-above e.0 m o es behind p)) ∙ p

  itself : entry (e ∷ es) e.0 ≡ Some e.1
  itself = ap (λ b. cond b (Some e.1) (entry es e.0)) (same_name-self e.0)

-- an id that stands in sorted entries is found by a name
named-in : (o : ℕ) (es : Entries) → T (is_sorted by_bytes es) → T (member o (ids es)) → (n : List ℕ) × (entry es n ≡ Some o)
named-in o [] s t = absurd t
named-in o (e ∷ es) s t = go (o == e.1) refl t (λ t. named-in o es (and_next (below_all by_bytes e.0 es) (is_sorted by_bytes es) s) t)
  where
    go : (b : Bool) → (o == e.1) ≡ b → T (b || member o (ids es)) → (T (member o (ids es)) → (n : List ℕ) × (entry es n ≡ Some o)) → (n : List ℕ) × (entry (e ∷ es) n ≡ Some o)
    go true q t f = (e.0, itself e es s ∙ ap Some (sym (eqb-true o e.1 q)))
    go false q t f = let r = f t in (r.0, later e es s r.0 o r.1)

ids-distinct : (es : Entries) → T (is_sorted by_bytes es) → ((o : ℕ) (m n : List ℕ) → entry es m ≡ Some o → entry es n ≡ Some o → m ≡ n) → T (distinct (ids es))
ids-distinct [] s once = tt
ids-distinct (e ∷ es) s once = and_both (not (member e.1 (ids es))) (distinct (ids es)) (none (member e.1 (ids es)) twice)
    (ids-distinct es rest (λ o m n p q. once o m n (later e es s m o p) (later e es s n o q)))
  where
    rest : T (is_sorted by_bytes es)
    rest = and_next (below_all by_bytes e.0 es) (is_sorted by_bytes es) s

    twice : T (member e.1 (ids es)) → ⊥
    twice t =
        let r = named-in e.1 es rest t in
        let lower : T (is_lt (by_bytes e.0 e.0)) = subst (λ n. T (is_lt (by_bytes e.0 n))) (once e.1 r.0 e.0 (later e es s r.0 e.1 r.1) (itself e es s)) (name-above e.0 r.0 e.1 es (behind e es s) r.1) in
        subst T (sym (same_name-self e.0) ∙ off e.0 e.0 lower) tt

well-sound : (v : Images) → WellFormed v → (x : ℕ) → T (is_gone (v x) || is_held (v x)) → T (is_sound_image (v x))
well-sound v w x h = go (v x) h (ids-distinct (entries_of (v x)) (w.maps x) (λ o m n p q. (w.once o x x m n p q).1))
  where
    go : (i : Image) → T (is_gone i || is_held i) → T (distinct (ids (entries_of i))) → T (is_sound_image i)
    go Gone h d = tt
    go (File m s a bs) h d = and_both (is_held (File m s a bs)) true h tt
    go (Dir m s a es) h d = and_both (is_held (Dir m s a es)) (distinct (ids es)) h d

module _ (g : System) (lo : LogsAgree g) (im : ImagesAgree g) where
  abbrev durable : List Op
  durable = filter g.ghost.is_durable g.ghost.kept

  durable-fit : Fits g.origin (updates durable)
  durable-fit = pulled-fit_alone (λ o. o.update) g.origin g.ghost.is_durable g.ghost.kept lo.closed im.fits

  durable-sound : T (Rattle.std.specs.List.list_all is_sound (updates durable))
  durable-sound = all-sound durable (each-fewer (λ o. T (is_sound o.update)) g.ghost.is_durable g.ghost.kept im.sound)

  pub server-sound : (x : ℕ) → T (is_sound_image (images g.durable.volume x))
  server-sound x = subst (λ i. T (is_sound_image i)) (sym (im.server x))
      (well-sound (after g.origin (updates durable)) (kept-formed g.origin (updates durable) im.origin durable-sound durable-fit) x (kept-held g.origin (updates durable) im.origin_held durable-sound durable-fit x))
