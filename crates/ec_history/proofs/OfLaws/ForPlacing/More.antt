-- What histories and lines come to with more behind them.
use Rattle.std.proofs.Common.{◌≡◌, refl, sym, ap, ◌∙◌, arith, ◌+◌, ℕ, Bool, true, false, ◌||◌, cond, List, [], ◌∷◌, ◌++◌, length, length-append, append_assoc, append-nil}
use Rattle.std.specs.List.{filter, list_any}
use Rattle.std.proofs.lemmas.List.Elements.{filter-append}
use Rattle.ec_plain.specs.declared.call.Call.{Call}
use Rattle.ec_history.specs.Legal.{is_op_of}
use Rattle.std.proofs.lemmas.List.Folds.{list_any-append}
use Rattle.ec_history.specs.History.{Base, History, Op, Owed, kept, kept_from, kept_next, issued, issued_by, issued_from, owed, owed_from, owed_next, is_lost, names, is_entry_of, same_start, due, distinct_numbers, meets, outcome}
use Rattle.ec_history.specs.Placing.{watch, watch_from, watch_next, unwatched, last_place, gives_entry, before_line, is_numbered}
use Rattle.ec_history.specs.declared.watch.Watch.{Watch}
use Rattle.ec_history.specs.Lines.{durable, durable_from, made_durable}
use Rattle.ec_history.specs.declared.entry.Entry.{Entry}
use Rattle.ec_history.specs.declared.entry.Entry.TheVariants as entry
use Rattle.std.proofs.lemmas.Bool.{or_parts, cond-false}
use Rattle.ec_history.specs.declared.shown.Shown.{Shown}

-- Histories.

pub kept_from-append : (base : Base) (ks : List Op) (h g : History) → kept_from base ks (h ++ g) ≡ kept_from base (kept_from base ks h) g
kept_from-append base ks [] g = refl
kept_from-append base ks (e ∷ h) g = kept_from-append base (kept_next base ks e) h g

pub issued_from-append : (base : Base) (ks : List Op) (h g : History) → issued_from base ks (h ++ g) ≡ issued_from base ks h ++ issued_from base (kept_from base ks h) g
issued_from-append base ks [] g = refl
issued_from-append base ks (e ∷ h) g =
    ap (λ ls. issued_by base ks e ++ ls) (issued_from-append base (kept_next base ks e) h g)
    ∙ sym (append_assoc (issued_by base ks e) (issued_from base (kept_next base ks e) h) (issued_from base (kept_from base (kept_next base ks e) h) g))

pub owed_from-append : (base : Base) (c b : ℕ) (ks : List Op) (qs : Owed) (h g : History) → owed_from base c b ks qs (h ++ g) ≡ owed_from base c b (kept_from base ks h) (owed_from base c b ks qs h) g
owed_from-append base c b ks qs [] g = refl
owed_from-append base c b ks qs (e ∷ h) g = owed_from-append base c b (kept_next base ks e) (owed_next base c b ks qs e) h g

pub kept-append : (base : Base) (h g : History) → kept base (h ++ g) ≡ kept_from base (kept base h) g
kept-append base h g = kept_from-append base [] h g

pub kept-step : (base : Base) (h : History) (e : ℕ × Entry) → kept base (h ++ e ∷ []) ≡ kept_next base (kept base h) e
kept-step base h e = kept-append base h (e ∷ [])

pub issued-append : (base : Base) (h g : History) → issued base (h ++ g) ≡ issued base h ++ issued_from base (kept base h) g
issued-append base h g = issued_from-append base [] h g

pub issued-step : (base : Base) (h : History) (e : ℕ × Entry) → issued base (h ++ e ∷ []) ≡ issued base h ++ issued_by base (kept base h) e
issued-step base h e = issued-append base h (e ∷ []) ∙ ap (λ ks. issued base h ++ ks) (append-nil (issued_by base (kept base h) e))

pub owed-append : (base : Base) (h g : History) (c b : ℕ) → owed base (h ++ g) c b ≡ owed_from base c b (kept base h) (owed base h c b) g
owed-append base h g c b = owed_from-append base c b [] [] h g

pub owed-step : (base : Base) (h : History) (e : ℕ × Entry) (c b : ℕ) → owed base (h ++ e ∷ []) c b ≡ owed_next base c b (kept base h) (owed base h c b) e
owed-step base h e c b = owed-append base h (e ∷ []) c b

pub is_lost-append : (c b n : ℕ) (h g : History) → is_lost c b n (h ++ g) ≡ (is_lost c b n h || is_lost c b n g)
is_lost-append c b n h g = list_any-append (λ e. names c b n e.1) h g

-- Lines.

pub watch_from-append : (c : ℕ) (w : Watch) (ss ts : List Shown) → watch_from c w (ss ++ ts) ≡ watch_from c (watch_from c w ss) ts
watch_from-append c w [] ts = refl
watch_from-append c w (s ∷ ss) ts = watch_from-append c (watch_next c w s) ss ts

pub watch-append : (c : ℕ) (ss ts : List Shown) → watch c (ss ++ ts) ≡ watch_from c (watch c ss) ts
watch-append c ss ts = watch_from-append c unwatched ss ts

pub watch-step : (c : ℕ) (ss : List Shown) (s : Shown) → watch c (ss ++ s ∷ []) ≡ watch_next c (watch c ss) s
watch-step c ss s = watch-append c ss (s ∷ [])

pub durable_from-append : (c b : ℕ) (w : Watch) (ss ts : List Shown) → durable_from c b w (ss ++ ts) ≡ durable_from c b w ss ++ durable_from c b (watch_from c w ss) ts
durable_from-append c b w [] ts = refl
durable_from-append c b w (s ∷ ss) ts =
    ap (λ ns. made_durable c b w s ++ ns) (durable_from-append c b (watch_next c w s) ss ts)
    ∙ sym (append_assoc (made_durable c b w s) (durable_from c b (watch_next c w s) ss) (durable_from c b (watch_from c (watch_next c w s) ss) ts))

pub durable-append : (c b : ℕ) (ss ts : List Shown) → durable c b (ss ++ ts) ≡ durable c b ss ++ durable_from c b (watch c ss) ts
durable-append c b ss ts = durable_from-append c b unwatched ss ts

pub durable-step : (c b : ℕ) (ss : List Shown) (s : Shown) → durable c b (ss ++ s ∷ []) ≡ durable c b ss ++ made_durable c b (watch c ss) s
durable-step c b ss s = durable-append c b ss (s ∷ []) ∙ ap (λ ns. durable c b ss ++ ns) (append-nil (made_durable c b (watch c ss) s))

last_place-append : (c b : ℕ) (w : Watch) (p found : ℕ) (ss ts : List Shown)
    → last_place c b w p found (ss ++ ts) ≡ last_place c b (watch_from c w ss) (p + length ss) (last_place c b w p found ss) ts
last_place-append c b w p found [] ts = ap (λ q. last_place c b w q found ts) (omega arith)
last_place-append c b w p found (s ∷ ss) ts =
    last_place-append c b (watch_next c w s) (p + 1) (cond (gives_entry c b w s) p found) ss ts
    ∙ ap (λ q. last_place c b (watch_from c (watch_next c w s) ss) q (last_place c b (watch_next c w s) (p + 1) (cond (gives_entry c b w s) p found) ss) ts) (omega arith)

pub last_place-step : (c b : ℕ) (ss : List Shown) (s : Shown)
    → last_place c b unwatched 1 0 (ss ++ s ∷ []) ≡ cond (gives_entry c b (watch c ss) s) (length ss + 1) (last_place c b unwatched 1 0 ss)
last_place-step c b ss s =
    last_place-append c b unwatched 1 0 ss (s ∷ [])
    ∙ ap (λ q. cond (gives_entry c b (watch c ss) s) q (last_place c b unwatched 1 0 ss)) (omega arith)

-- the first line of a number stays, once it is there
pub before_line-append : (l : ℕ) (ss ts : List Shown) → before_line l (ss ++ ts) ≡ cond (list_any (is_numbered l) ss) (before_line l ss) (ss ++ before_line l ts)
before_line-append l [] ts = refl
before_line-append l (s ∷ ss) ts = go (is_numbered l s) (before_line-append l ss ts)
  where
    go : (b : Bool) → before_line l (ss ++ ts) ≡ cond (list_any (is_numbered l) ss) (before_line l ss) (ss ++ before_line l ts)
        → cond b [] (s ∷ before_line l (ss ++ ts)) ≡ cond (b || list_any (is_numbered l) ss) (cond b [] (s ∷ before_line l ss)) (s ∷ (ss ++ before_line l ts))
    go true e = refl
    go false e = ap (λ x. s ∷ x) e ∙ out (list_any (is_numbered l) ss)
      where
        out : (a : Bool) → s ∷ cond a (before_line l ss) (ss ++ before_line l ts) ≡ cond a (s ∷ before_line l ss) (s ∷ (ss ++ before_line l ts))
        out true = refl
        out false = refl

owed_from-others : (base : Base) (c b : ℕ) (ks : List Op) (qs : Owed) (g : History) → list_any (λ e. is_entry_of c b e.1) g ≡ false → owed_from base c b ks qs g ≡ qs
owed_from-others base c b ks qs [] n = refl
owed_from-others base c b ks qs (e ∷ g) n =
    let k = or_parts (is_entry_of c b e.1) (list_any (λ x. is_entry_of c b x.1) g) n in
    ap (λ x. owed_from base c b (kept_next base ks e) x g) (one e k.0) ∙ owed_from-others base c b (kept_next base ks e) qs g k.1
  where
    one : (x : ℕ × Entry) → is_entry_of c b x.1 ≡ false → owed_next base c b ks qs x ≡ qs
    one (p, entry.Call d f l begun cl a op) m = cond-false (same_start c b d f) _ qs m
    one (p, entry.Loss d f ns) m = cond-false (same_start c b d f) _ qs m

pub owed-others : (base : Base) (h g : History) (c b : ℕ) → list_any (λ e. is_entry_of c b e.1) g ≡ false → owed base (h ++ g) c b ≡ owed base h c b
owed-others base h g c b n = owed-append base h g c b ∙ owed_from-others base c b (kept base h) (owed base h c b) g n

pub due-step : (base : Base) (h : History) (e : ℕ × Entry) (c b p : ℕ) (cl : Call)
    → due base (h ++ e ∷ []) c b p cl ≡ distinct_numbers (filter (meets (outcome base (kept_next base (kept base h) e) p cl) cl) (owed_next base c b (kept base h) (owed base h c b) e))
due-step base h e c b p cl =
    ap (λ ks. distinct_numbers (filter (meets (outcome base ks p cl) cl) (owed base (h ++ e ∷ []) c b))) (kept-step base h e)
    ∙ ap (λ qs. distinct_numbers (filter (meets (outcome base (kept_next base (kept base h) e) p cl) cl) qs)) (owed-step base h e c b)

pub count-step : (c b : ℕ) (h : History) (e : ℕ × Entry) → length (filter (is_op_of c b) (h ++ e ∷ [])) ≡ length (filter (is_op_of c b) h) + length (cond (is_op_of c b e) (e ∷ []) [])
count-step c b h e = ap length (filter-append (is_op_of c b) h (e ∷ [])) ∙ length-append (filter (is_op_of c b) h) (cond (is_op_of c b e) (e ∷ []) [])

pub count-next : (c b : ℕ) (h : History) (e : ℕ × Entry) → length (filter (is_op_of c b) (h ++ e ∷ [])) ≡ cond (is_op_of c b e) (length (filter (is_op_of c b) h) + 1) (length (filter (is_op_of c b) h))
count-next c b h e = count-step c b h e ∙ go (is_op_of c b e)
  where
    go : (x : Bool) → length (filter (is_op_of c b) h) + length (cond x (e ∷ []) []) ≡ cond x (length (filter (is_op_of c b) h) + 1) (length (filter (is_op_of c b) h))
    go true = refl
    go false = omega arith
