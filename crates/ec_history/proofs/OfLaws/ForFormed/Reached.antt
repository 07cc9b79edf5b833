-- Updates that are sound and fit leave each live object reached.
use Rattle.std.proofs.Common.{◌≡◌, ◌≢◌, refl, sym, ap, subst, ◌∙◌, inl, inr, ◌⊎◌, arith, ℕ, T, Bool, true, false, not, ◌==◌, ◌&&◌, ◌||◌, cond, List, [], ◌∷◌, ◌++◌, eqb, eqb→eq, length, Option, Some}
use Rattle.std.specs.Bool.{⊤}
use Rattle.std.specs.List.{filter, list_all}
use Rattle.std.specs.Prelude.{nat_le, nat_lt}
use Rattle.std.proofs.lemmas.Bool.{cases_Bool}
use Rattle.ec_volume.specs.Image.{is_gone, is_dir, is_kind, is_id, is_bare, entries_of, gives, lacks, yields}
use Rattle.ec_volume.specs.Update.{root, operands, has_operand, member, listed, ids_of, Above, first_of, leads, has_room, distinct, is_way, is_sound, fits}
use Rattle.ec_volume.specs.Volume.{Images, Names, WellFormed, AllReached, Fits, after}
use Rattle.ec_volume.specs.declared.image.Image.{Image}
use Rattle.ec_volume.specs.declared.image.Image.TheVariants.{Gone, File, Dir}
use Rattle.ec_volume.specs.declared.image.Kind.{Kind}
use Rattle.ec_volume.specs.declared.image.Kind.TheVariants as kind
use Rattle.ec_volume.specs.declared.update.Update.{Update}
use Rattle.ec_volume.specs.declared.update.Update.TheVariants.{Make, Drop, Move, Put, Len, Mode, Stamp, Order, Shift, Owner}
use Rattle.ec_history.proofs.OfLaws.ForPlacing.Removed.{off}
use Rattle.ec_history.proofs.OfLaws.ForFormed.Change.{IsLive, Change, New, Stay, change_formed}
use Rattle.ec_history.proofs.OfLaws.ForFormed.Entries.{entries-gone, entries-bare, dir-live}
use Rattle.ec_history.proofs.OfLaws.ForFormed.Apart.{distinct-rest, gives-is, yields-dir}
use Rattle.ec_history.proofs.OfLaws.ForFormed.Led.{IsLed, empty-unnamed, led-on, led-all, all-led}
use Rattle.ec_base.proofs.Bools.{not-both, or-right as or_r, both, first as left, right, or_first as or_l, on as holds, is-true}

self : (n : ℕ) → eqb n n ≡ true
self n = grind arith

differ : (a b : ℕ) → eqb a b ≡ false → a ≢ b
differ a b e q = off e (subst (λ x. T (eqb a x)) q (holds (self a)))

other : (a b : ℕ) → a ≢ b → eqb b a ≡ false
other a b n = elim (cases_Bool (eqb b a)) [ inl e ↦ absurd (n (sym (eqb→eq b a (holds e)))) | inr e ↦ e ]

member-here : (o : ℕ) (os : List ℕ) → T (member o (o ∷ os))
member-here o os = or_l (eqb o o) _ (holds (self o))

-- What fits at an operand.
fits-at : (v : Images) (u : Update) → Fits v (u ∷ []) → (o : ℕ) → T (member o (operands u)) → T (fits u o (v o))
fits-at v u f o m =
    let here : T (not (has_operand o u) || fits u o (v o)) = left (not (has_operand o u) || fits u o (v o)) _ (f o) in
    subst (λ b. T (not b || fits u o (v o))) (is-true _ m) here

-- The first of distinct numbers isn't among the others.
first-apart : (a : ℕ) (os : List ℕ) (b : ℕ) → T (distinct (a ∷ os)) → T (member b os) → a ≢ b
first-apart a os b d m e = not-both (member a os) (subst (λ x. T (member x os)) (sym e) m) (left (not (member a os)) _ d)

file-empty : (i : Image) → T (is_kind kind.File i) → entries_of i ≡ []
file-empty Gone h = absurd h
file-empty (File m s w bs) h = refl
file-empty (Dir m s w es) h = absurd h

in-back : (o : ℕ) (xs ys : List ℕ) → T (member o ys) → T (member o (xs ++ ys))
in-back o [] ys h = h
in-back o (x ∷ xs) ys h = or_r (eqb o x) _ (in-back o xs ys h)

in-filter : (p : ℕ → Bool) (o : ℕ) (xs : List ℕ) → T (p o) → T (member o xs) → T (member o (filter p xs))
in-filter p o [] y h = h
in-filter p o (x ∷ xs) y h = go (p x) (eqb o x) refl refl h (in-filter p o xs y)
  where
    go : (a b : Bool) → p x ≡ a → eqb o x ≡ b → T (b || member o xs) → (T (member o xs) → T (member o (filter p xs))) → T (member o (cond a (x ∷ filter p xs) (filter p xs)))
    go true true e g t r = or_l (eqb o x) _ (holds g)
    go true false e g t r = or_r (eqb o x) _ (r t)
    go false true e g t r = absurd (off e (subst (λ z. T (p z)) (eqb→eq o x (holds g)) y))
    go false false e g t r = r t

module _ (v : Images) (f : WellFormed v) (a : AllReached v) where
  -- Changes by which only one object gets a new name.
  module _ (w : Images) (New' : ℕ → List ℕ → ℕ → Type 0) (Stay' : ℕ → Type 0) (c : Change v w New' Stay')
      (keeps : (d : ℕ) (n : List ℕ) (o : ℕ) → Names v d n o → ((e : ℕ) × (m : List ℕ) × New' e m d) ⊎ Stay' d)
      (obj : ℕ) (only : (e : ℕ) (m : List ℕ) (o : ℕ) → New' e m o → o ≡ obj) where
    -- where that object has no entries, each other one is led to
    led-but : entries_of (v obj) ≡ [] → (o : ℕ) → o ≢ obj → IsLive (v o) → IsLive (w o) → IsLed w o
    led-but empty o ne old l =
        let at = all-led v a o old in
        led-on v w New' Stay' c keeps (λ x. x ≢ obj) (λ d n x h p e. empty-unnamed (v obj) n x empty (subst (λ y. Names v y n x) e h))
        (λ d e n m x p h new before. absurd (p (only e m x new))) at.0 o ne at.1 l

    -- where the new name leads on from a directory that is led to, each one is
    led-with : ((d e : ℕ) (n m : List ℕ) (o : ℕ) → Names v d n o → New' e m o → IsLed w d → IsLed w e) → (o : ℕ) → IsLive (v o) → IsLive (w o) → IsLed w o
    led-with bridge o old l =
        let at = all-led v a o old in
        led-on v w New' Stay' c keeps (λ x. ⊤) (λ d n x h p. tt) (λ d e n m x p h new before. bridge d e n m x h new before) at.0 o tt at.1 l

  -- Updates without new names.
  none-new : (w : Images) (Stay' : ℕ → Type 0) → Change v w (λ d n o. ⊥) Stay' → ((d : ℕ) (n : List ℕ) (o : ℕ) → Names v d n o → Stay' d) → AllReached w
  none-new w Stay' c stays =
      let keeps : (d : ℕ) (n : List ℕ) (o : ℕ) → Names v d n o → ((e : ℕ) × (m : List ℕ) × ⊥) ⊎ Stay' d = λ d n o h. inr (stays d n o h) in
      led-all v w (λ d n o. ⊥) Stay' c keeps
      (λ o l old. led-with w (λ d n o. ⊥) Stay' c keeps 0 (λ e m x new. absurd new) (λ d e n m x h new before. absurd new) o old l)
      (λ e m o new. absurd new)

  -- Make
  module _ (dir obj : ℕ) (name : List ℕ) (k : Kind) (w : Images) where
    abbrev make : Update
    make = Make dir name obj k

    module _ (s : T (is_sound make)) (fit : Fits v (make ∷ [])) (c : Change v w (New make) (Stay make)) where
      make-apart : dir ≢ obj
      make-apart = first-apart dir (obj ∷ []) obj (left (distinct (dir ∷ obj ∷ [])) _ s) (member-here obj [])

      make-dir : T (is_dir (v dir))
      make-dir =
          let here : T (cond (dir == dir) (lacks name (v dir) && nat_lt (length (entries_of (v dir))) 128) (is_gone (v dir))) = fits-at v make fit dir (member-here dir (obj ∷ [])) in
          left (is_dir (v dir)) _ (left (lacks name (v dir)) _ (subst (λ b. T (cond b (lacks name (v dir) && nat_lt (length (entries_of (v dir))) 128) (is_gone (v dir)))) (self dir) here))

      make-gone : T (is_gone (v obj))
      make-gone =
          let here : T (cond (obj == dir) (lacks name (v obj) && nat_lt (length (entries_of (v obj))) 128) (is_gone (v obj))) =
          fits-at v make fit obj (or_r (eqb obj dir) _ (member-here obj [])) in
          subst (λ b. T (cond b (lacks name (v obj) && nat_lt (length (entries_of (v obj))) 128) (is_gone (v obj)))) (other dir obj make-apart) here

      make-keeps : (d : ℕ) (n : List ℕ) (o : ℕ) → Names v d n o → ((e : ℕ) × (m : List ℕ) × New make e m d) ⊎ Stay make d
      make-keeps d n o h = inr (λ e. empty-unnamed (v obj) n o (entries-gone (v obj) make-gone) (subst (λ x. Names v x n o) e h))

      make-but : (o : ℕ) → o ≢ obj → IsLive (v o) → IsLive (w o) → IsLed w o
      make-but = led-but w (New make) (Stay make) c make-keeps obj (λ e m o x. x.2) (entries-gone (v obj) make-gone)

      make-reached : AllReached w
      make-reached =
          led-all v w (New make) (Stay make) c make-keeps
          (λ o l old. make-but o (λ e. not-both (is_gone (v obj)) make-gone (subst (λ x. IsLive (v x)) e old)) old l)
          (λ e m o new. inr (subst (IsLed w) (sym new.0) (make-but dir make-apart (dir-live (v dir) make-dir) (c.live_up dir (dir-live (v dir) make-dir) make-apart))))

  -- Drop
  drop-reached : (dir obj : ℕ) (name : List ℕ) (k : Kind) (w : Images) → T (is_sound (Drop dir name obj k)) → Fits v (Drop dir name obj k ∷ [])
      → Change v w (New (Drop dir name obj k)) (Stay (Drop dir name obj k)) → AllReached w
  drop-reached dir obj name k w s fit c =
      let apart : dir ≢ obj = first-apart dir (obj ∷ []) obj (left (distinct (dir ∷ obj ∷ [])) _ s) (member-here obj []) in
      let here : T (cond (obj == dir) (gives name obj (v obj)) (is_bare k (v obj))) = fits-at v (Drop dir name obj k) fit obj (or_r (eqb obj dir) _ (member-here obj [])) in
      let bare : T (is_bare k (v obj)) = subst (λ b. T (cond b (gives name obj (v obj)) (is_bare k (v obj)))) (other dir obj apart) here in
      none-new w (Stay (Drop dir name obj k)) c (λ d n o h e. empty-unnamed (v obj) n o (entries-bare k (v obj) bare) (subst (λ x. Names v x n o) e h))

  -- Move
  module _ (dir obj : ℕ) (from to : List ℕ) (k : Kind) (victim : Option ℕ) (w : Images) where
    abbrev move : Update
    move = Move dir from to obj k victim

    module _ (s : T (is_sound move)) (fit : Fits v (move ∷ [])) (c : Change v w (New move) (Stay move)) where
      move-named : Names v dir from obj
      move-named =
          let here : T (cond (dir == dir) (gives from obj (v dir) && yields to victim (v dir)) (cond (dir == obj) (is_kind k (v dir)) (is_bare k (v dir)))) = fits-at v move fit dir (member-here dir (obj ∷ listed victim)) in
          gives-is from obj (v dir) (left (gives from obj (v dir)) _ (subst (λ b. T (cond b (gives from obj (v dir) && yields to victim (v dir)) (cond (dir == obj) (is_kind k (v dir)) (is_bare k (v dir))))) (self dir) here))

      move-bare : (o : ℕ) → victim ≡ Some o → T (is_bare k (v o))
      move-bare o e =
          let all : T (distinct (dir ∷ obj ∷ o ∷ [])) = subst (λ x. T (distinct (dir ∷ obj ∷ listed x))) e (left (distinct (dir ∷ obj ∷ listed victim)) _ s) in
          let m : T (member o (operands move)) = subst (λ x. T (member o (dir ∷ obj ∷ listed x))) (sym e) (or_r (eqb o dir) _ (or_r (eqb o obj) _ (member-here o []))) in
          let here : T (cond (o == dir) (gives from obj (v o) && yields to victim (v o)) (cond (o == obj) (is_kind k (v o)) (is_bare k (v o)))) = fits-at v move fit o m in
          let next : T (cond (o == obj) (is_kind k (v o)) (is_bare k (v o))) =
          subst (λ b. T (cond b (gives from obj (v o) && yields to victim (v o)) (cond (o == obj) (is_kind k (v o)) (is_bare k (v o))))) (other dir o (first-apart dir (obj ∷ o ∷ []) o all (or_r (eqb o obj) _ (member-here o [])))) here in
          subst (λ b. T (cond b (is_kind k (v o)) (is_bare k (v o)))) (other obj o (first-apart obj (o ∷ []) o (distinct-rest dir (obj ∷ o ∷ []) all) (member-here o []))) next

      move-keeps : (d : ℕ) (n : List ℕ) (o : ℕ) → Names v d n o → ((e : ℕ) × (m : List ℕ) × New move e m d) ⊎ Stay move d
      move-keeps d n o h = elim (cases_Bool (eqb d obj)) [
        | inl e ↦ inl (dir, to, (refl, refl, eqb→eq d obj (holds e)))
        | inr e ↦ inr (differ d obj e, λ q. empty-unnamed (v d) n o (entries-bare k (v d) (move-bare d q)) h)
      ]

      move-reached : AllReached w
      move-reached =
          led-all v w (New move) (Stay move) c move-keeps
          (λ o l old. led-with w (New move) (Stay move) c move-keeps obj (λ e m o x. x.2)
          (λ d e n m x h new before. subst (IsLed w) ((f.once obj d dir n from (subst (λ y. Names v d n y) new.2 h) move-named).0 ∙ sym new.0) before) o old l)
          (λ e m o new. inl (subst (λ y. IsLive (v y)) (sym new.2) (f.live obj dir from move-named)))

  -- Shift
  module _ (dir : ℕ) (from : List ℕ) (into : ℕ) (to : List ℕ) (obj : ℕ) (k : Kind) (victim : Option ℕ) (up : Above) (w : Images) where
    abbrev shift : Update
    shift = Shift dir from into to obj k victim up

    module _ (s : T (is_sound shift)) (fit : Fits v (shift ∷ [])) (c : Change v w (New shift) (Stay shift)) where
      abbrev others : List ℕ
      others = filter (λ o. not (o == dir)) (ids_of up)

      abbrev Rest : ℕ → Bool
      Rest o = cond (o == dir) (gives from obj (v o)) (cond (o == into) (yields to victim (v o) && has_room victim (v o)) (cond (o == obj) (is_kind k (v o)) (not (is_id o victim) || is_bare k (v o))))

      shift-distinct : T (distinct (dir ∷ into ∷ obj ∷ (listed victim ++ others)))
      shift-distinct = left (distinct (dir ∷ into ∷ obj ∷ (listed victim ++ others))) _ s

      shift-behind : T (distinct (into ∷ obj ∷ (listed victim ++ others)))
      shift-behind = distinct-rest dir (into ∷ obj ∷ (listed victim ++ others)) shift-distinct

      shift-last : T (distinct (obj ∷ (listed victim ++ others)))
      shift-last = distinct-rest into (obj ∷ (listed victim ++ others)) shift-behind

      shift-fits : (o : ℕ) → T (member o (dir ∷ into ∷ obj ∷ (listed victim ++ others))) → T (leads up into o (v o) && Rest o)
      shift-fits o m = fits-at v shift fit o m

      shift-named : Names v dir from obj
      shift-named =
          let here : T (Rest dir) = right (leads up into dir (v dir)) _ (shift-fits dir (member-here dir (into ∷ obj ∷ (listed victim ++ others)))) in
          gives-is from obj (v dir) (subst (λ b. T (cond b (gives from obj (v dir)) (cond (dir == into) (yields to victim (v dir) && has_room victim (v dir)) (cond (dir == obj) (is_kind k (v dir)) (not (is_id dir victim) || is_bare k (v dir)))))) (self dir) here)

      -- behind the first one
      shift-next : (o : ℕ) → dir ≢ o → T (Rest o) → T (cond (o == into) (yields to victim (v o) && has_room victim (v o)) (cond (o == obj) (is_kind k (v o)) (not (is_id o victim) || is_bare k (v o))))
      shift-next o n h = subst (λ b. T (cond b (gives from obj (v o)) (cond (o == into) (yields to victim (v o) && has_room victim (v o)) (cond (o == obj) (is_kind k (v o)) (not (is_id o victim) || is_bare k (v o)))))) (other dir o n) h

      -- behind the second one
      shift-third : (o : ℕ) → into ≢ o → T (cond (o == into) (yields to victim (v o) && has_room victim (v o)) (cond (o == obj) (is_kind k (v o)) (not (is_id o victim) || is_bare k (v o)))) → T (cond (o == obj) (is_kind k (v o)) (not (is_id o victim) || is_bare k (v o)))
      shift-third o n h = subst (λ b. T (cond b (yields to victim (v o) && has_room victim (v o)) (cond (o == obj) (is_kind k (v o)) (not (is_id o victim) || is_bare k (v o))))) (other into o n) h

      in-into : T (member into (into ∷ obj ∷ (listed victim ++ others)))
      in-into = member-here into (obj ∷ (listed victim ++ others))

      in-obj : T (member obj (into ∷ obj ∷ (listed victim ++ others)))
      in-obj = or_r (eqb obj into) _ (member-here obj (listed victim ++ others))

      in-victim : (o : ℕ) → victim ≡ Some o → T (member o (listed victim ++ others))
      in-victim o e = subst (λ x. T (member o (listed x ++ others))) (sym e) (member-here o others)

      in-tail : (o : ℕ) → T (member o (listed victim ++ others)) → T (member o (into ∷ obj ∷ (listed victim ++ others)))
      in-tail o m = or_r (eqb o into) _ (or_r (eqb o obj) _ m)

      into-apart : into ≢ obj
      into-apart = first-apart into (obj ∷ (listed victim ++ others)) obj shift-behind (member-here obj (listed victim ++ others))

      shift-kind : T (is_kind k (v obj))
      shift-kind =
          let here : T (Rest obj) = right (leads up into obj (v obj)) _ (shift-fits obj (or_r (eqb obj dir) _ in-obj)) in
          let third = shift-third obj into-apart (shift-next obj (first-apart dir (into ∷ obj ∷ (listed victim ++ others)) obj shift-distinct in-obj) here) in
          subst (λ b. T (cond b (is_kind k (v obj)) (not (is_id obj victim) || is_bare k (v obj)))) (self obj) third

      shift-bare : (o : ℕ) → victim ≡ Some o → T (is_bare k (v o))
      shift-bare o e =
          let m : T (member o (into ∷ obj ∷ (listed victim ++ others))) = in-tail o (in-victim o e) in
          let here : T (Rest o) = right (leads up into o (v o)) _ (shift-fits o (or_r (eqb o dir) _ m)) in
          let third = shift-third o (first-apart into (obj ∷ (listed victim ++ others)) o shift-behind (or_r (eqb o obj) _ (in-victim o e))) (shift-next o (first-apart dir (into ∷ obj ∷ (listed victim ++ others)) o shift-distinct m) here) in
          let last : T (not (is_id o victim) || is_bare k (v o)) = subst (λ b. T (cond b (is_kind k (v o)) (not (is_id o victim) || is_bare k (v o)))) (other obj o (first-apart obj (listed victim ++ others) o shift-last (in-victim o e))) third in
          subst (λ b. T (not b || is_bare k (v o))) (ap (is_id o) e ∙ self o) last

      shift-stays : (o : ℕ) → o ≢ obj → T (member o (dir ∷ into ∷ others)) → Stay shift o
      shift-stays o n m = (n, λ e. clash e (eqb o dir) (eqb o into) refl refl m)
        where
          clash : victim ≡ Some o → (p q : Bool) → eqb o dir ≡ p → eqb o into ≡ q → T (p || (q || member o others)) → ⊥
          clash e true q g h t = first-apart dir (into ∷ obj ∷ (listed victim ++ others)) o shift-distinct (in-tail o (in-victim o e)) (sym (eqb→eq o dir (holds g)))
          clash e false true g h t = first-apart into (obj ∷ (listed victim ++ others)) o shift-behind (or_r (eqb o obj) _ (in-victim o e)) (sym (eqb→eq o into (holds h)))
          clash e false false g h t =
              let all : T (distinct (o ∷ others)) = subst (λ x. T (distinct (listed x ++ others))) e (distinct-rest obj (listed victim ++ others) shift-last) in
              first-apart o others o all t refl

      into-stays : Stay shift into
      into-stays = shift-stays into into-apart (or_r (eqb into dir) _ (member-here into others))

      up-listed : (o : ℕ) → T (member o (ids_of up)) → T (member o (dir ∷ into ∷ others))
      up-listed o m = elim (cases_Bool (eqb o dir)) [
        | inl e ↦ or_l (eqb o dir) _ (holds e)
        | inr e ↦ or_r (eqb o dir) _ (or_r (eqb o into) _ (in-filter (λ x. not (x == dir)) o (ids_of up) (subst (λ b. T (not b)) (sym e) tt) m))
      ]

      up-operand : (o : ℕ) → T (member o (ids_of up)) → T (member o (dir ∷ into ∷ obj ∷ (listed victim ++ others)))
      up-operand o m = elim (cases_Bool (eqb o dir)) [
        | inl e ↦ or_l (eqb o dir) _ (holds e)
        | inr e ↦ or_r (eqb o dir) _ (in-tail o (in-back o (listed victim) others (in-filter (λ x. not (x == dir)) o (ids_of up) (subst (λ b. T (not b)) (sym e) tt) m)))
      ]

      up-apart : (o : ℕ) → T (member o (ids_of up)) → o ≢ obj
      up-apart o m q = elim (cases_Bool (eqb o dir)) [
        | inl e ↦ first-apart dir (into ∷ obj ∷ (listed victim ++ others)) obj shift-distinct in-obj (sym (eqb→eq o dir (holds e)) ∙ q)
        | inr e ↦ first-apart obj (listed victim ++ others) o shift-last (in-back o (listed victim) others (in-filter (λ x. not (x == dir)) o (ids_of up) (subst (λ b. T (not b)) (sym e) tt) m)) (sym q)
      ]

      shift-keeps : (d : ℕ) (n : List ℕ) (o : ℕ) → Names v d n o → ((e : ℕ) × (m : List ℕ) × New shift e m d) ⊎ Stay shift d
      shift-keeps d n o h = elim (cases_Bool (eqb d obj)) [
        | inl e ↦ inl (into, to, (refl, refl, eqb→eq d obj (holds e)))
        | inr e ↦ inr (differ d obj e, λ q. empty-unnamed (v d) n o (entries-bare k (v d) (shift-bare d q)) h)
      ]

      -- along directories that lead to another one
      along : (us : Above) → ((x : ℕ) → T (member x (ids_of us)) → T (leads us into x (v x))) → ((x : ℕ) → T (member x (ids_of us)) → Stay shift x) → IsLed w (first_of us into) → IsLed w into
      along [] lead stay h = h
      along (e ∷ es) lead stay h =
          let here : T (not (e.0 == e.0) || gives e.1 (first_of es into) (v e.0)) = left (not (e.0 == e.0) || gives e.1 (first_of es into) (v e.0)) _ (lead e.0 (member-here e.0 (ids_of es))) in
          let named : Names v e.0 e.1 (first_of es into) = gives-is e.1 (first_of es into) (v e.0) (subst (λ b. T (not b || gives e.1 (first_of es into) (v e.0))) (self e.0) here) in
          along es (λ x m. right (not (x == e.0) || gives e.1 (first_of es into) (v x)) _ (lead x (or_r (eqb x e.0) _ m))) (λ x m. stay x (or_r (eqb x e.0) _ m))
          ((e.0, e.1) ∷ h.0, (c.stays e.0 e.1 (first_of es into) named (first es (λ x m. stay x (or_r (eqb x e.0) _ m))), h.1))
        where
          first : (us : Above) → ((x : ℕ) → T (member x (ids_of us)) → Stay shift x) → Stay shift (first_of us into)
          first [] g = into-stays
          first (y ∷ ys) g = g y.0 (member-here y.0 (ids_of ys))

      into-dir : T (is_dir (v into))
      into-dir =
          let here : T (Rest into) = right (leads up into into (v into)) _ (shift-fits into (or_r (eqb into dir) _ in-into)) in
          let next = shift-next into (first-apart dir (into ∷ obj ∷ (listed victim ++ others)) into shift-distinct in-into) here in
          let both' : T (yields to victim (v into) && has_room victim (v into)) =
          subst (λ b. T (cond b (yields to victim (v into) && has_room victim (v into)) (cond (into == obj) (is_kind k (v into)) (not (is_id into victim) || is_bare k (v into))))) (self into) next in
          yields-dir to victim (v into) (left (yields to victim (v into)) _ both')

      into-led : IsLed w into
      into-led = by_kind k refl (right (distinct (ids_of up)) _ (right (distinct (dir ∷ into ∷ obj ∷ (listed victim ++ others))) _ s))
        where
          by_kind : (j : Kind) → k ≡ j → T (is_way j into up) → IsLed w into
          by_kind kind.File q h =
              let empty : entries_of (v obj) ≡ [] = file-empty (v obj) (subst (λ j. T (is_kind j (v obj))) q shift-kind) in
              let old : IsLive (v into) = dir-live (v into) into-dir in
              led-but w (New shift) (Stay shift) c shift-keeps obj (λ e m o x. x.2) empty into into-apart old (c.live_up into old into-stays)
          by_kind kind.Dir q h = elim (cases_Bool (into == root)) [
            | inl e ↦ ([], eqb→eq into root (holds e))
            | inr e ↦
                let way : T ((nat_le 1 (length up) && nat_le (length up) 15) && (first_of up into == root)) =
                subst (λ b. T (cond b (length up == 0) ((nat_le 1 (length up) && nat_le (length up) 15) && (first_of up into == root)))) e h in
                along up (λ x m. left (leads up into x (v x)) _ (shift-fits x (up-operand x m))) (λ x m. shift-stays x (up-apart x m) (up-listed x m))
                ([], eqb→eq (first_of up into) root (right (nat_le 1 (length up) && nat_le (length up) 15) _ way))
          ]

      shift-reached : AllReached w
      shift-reached =
          led-all v w (New shift) (Stay shift) c shift-keeps
          (λ o l old. led-with w (New shift) (Stay shift) c shift-keeps obj (λ e m o x. x.2)
          (λ d e n m x h new before. subst (IsLed w) (sym new.0) into-led) o old l)
          (λ e m o new. inl (subst (λ y. IsLive (v y)) (sym new.2) (f.live obj dir from shift-named)))

  one_reached : (u : Update) (w : Images) → T (is_sound u) → Fits v (u ∷ []) → Change v w (New u) (Stay u) → AllReached w
  one_reached (Make dir name obj k) w s fit c = make-reached dir obj name k w s fit c
  one_reached (Drop dir name obj k) w s fit c = drop-reached dir obj name k w s fit c
  one_reached (Move dir from to obj k victim) w s fit c = move-reached dir obj from to k victim w s fit c
  one_reached (Put obj at bytes inside) w s fit c = none-new w (λ o. ⊤) c (λ d n o h. tt)
  one_reached (Len obj len) w s fit c = none-new w (λ o. ⊤) c (λ d n o h. tt)
  one_reached (Mode obj mode) w s fit c = none-new w (λ o. ⊤) c (λ d n o h. tt)
  one_reached (Stamp obj stamp) w s fit c = none-new w (λ o. ⊤) c (λ d n o h. tt)
  one_reached (Order objs) w s fit c = none-new w (λ o. ⊤) c (λ d n o h. tt)
  one_reached (Shift dir from into to obj k victim up) w s fit c = shift-reached dir from into to obj k victim up w s fit c
  one_reached (Owner obj owner) w s fit c = none-new w (λ o. ⊤) c (λ d n o h. tt)

pub reached_one : (v : Images) (u : Update) → WellFormed v → AllReached v → T (is_sound u) → Fits v (u ∷ []) → Change v (after v (u ∷ [])) (New u) (Stay u) → AllReached (after v (u ∷ []))
reached_one v u f a s fit c = one_reached v f a u (after v (u ∷ [])) s fit c

-- Behind a list of updates; each one makes such a change.
pub reached_all : ((v : Images) (u : Update) → WellFormed v → T (is_sound u) → Fits v (u ∷ []) → Change v (after v (u ∷ [])) (New u) (Stay u))
    → (v : Images) (us : List Update) → WellFormed v → AllReached v → T (list_all is_sound us) → Fits v us → AllReached (after v us)
reached_all changed v [] f a s fit = a
reached_all changed v (u ∷ us) f a s fit =
    let first : Fits v (u ∷ []) = λ o. both (not (has_operand o u) || fits u o (v o)) true (left (not (has_operand o u) || fits u o (v o)) _ (fit o)) tt in
    let c : Change v (after v (u ∷ [])) (New u) (Stay u) = changed v u f (left (is_sound u) _ s) first in
    let formed : WellFormed (after v (u ∷ [])) = change_formed v (after v (u ∷ [])) (New u) (Stay u) c f in
    reached_all changed (after v (u ∷ [])) us formed (reached_one v u f a (left (is_sound u) _ s) first c) (right (is_sound u) _ s)
    (λ o. right (not (has_operand o u) || fits u o (v o)) _ (fit o))
