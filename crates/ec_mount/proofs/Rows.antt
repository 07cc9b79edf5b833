-- Rows that are read one behind the other, and the calls of lanes.
use Rattle.std.proofs.Common.{refl, ◌≡◌, ◌==◌, ◌≤◌, ◌+◌, ℕ, true, false, List, [], ◌∷◌, ◌++◌, length, map, sym, ap, ◌∙◌, subst, arith, append_assoc, append-nil, length-append}
use Rattle.ec_plain.specs.declared.call.Call.{Call}
use Rattle.ec_script.specs.Grammar.{IsLaneLine, IsOutside, SpellsLane}
use Rattle.ec_script.specs.Lines.{lines_of}
use Rattle.ec_script.specs.declared.line.LineFault.TheVariants as line
use Rattle.ec_mount.specs.Script.{AreRows, IsBadAt, calls_of}
use Rattle.ec_mount.specs.declared.script.Row.{Row}
use Rattle.ec_mount.proofs.Texts.{other_lane, this_lane}

rows_push : (n : ℕ) (done : List (List ℕ)) (rows : List Row) (bytes : List ℕ) (row : Row) → AreRows n done rows → row.line ≡ length done + n → IsLaneLine bytes (row.lane, row.call) → AreRows n (done ++ bytes ∷ []) (rows ++ row ∷ [])
rows_push n [] [] bytes row a e is = (omega (arith, e), is, tt)
rows_push n [] (r ∷ rows) bytes row a e is = absurd a
rows_push n (b ∷ done) [] bytes row a e is = absurd a
rows_push n (b ∷ done) (r ∷ rows) bytes row a e is = (a.0, a.1, rows_push (n + 1) done rows bytes row a.2 (omega (arith, e)) is)

-- These lines were read, and those are left.
pub record Reading (script ahead : List ℕ) (rows : List Row) (number : ℕ) : Type 0 where
  pub done : List (List ℕ)
  pub whole : lines_of script ≡ done ++ lines_of ahead
  pub read : AreRows 1 done rows
  pub number_is : number ≡ length done + 1

pub begins : (script : List ℕ) (rows : List Row) → rows ≡ [] → Reading script script rows 1
begins script rows e = record { done = []; whole = refl; read = subst (AreRows 1 []) (sym e) tt; number_is = refl }

module _ (script ahead next bytes : List ℕ) (rows : List Row) (number : ℕ) (r : Reading script ahead rows number) (split : lines_of ahead ≡ bytes ∷ lines_of next) where
  pub reads : (row : Row) (more : List Row) → row.line ≡ number → IsLaneLine bytes (row.lane, row.call) → more ≡ rows ++ row ∷ [] → Reading script next more (number + 1)
  reads row more e is longer = record {
    done = r.done ++ bytes ∷ [];
    whole = r.whole ∙ (ap (λ l. r.done ++ l) split ∙ sym (append_assoc r.done (bytes ∷ []) (lines_of next)));
    read = subst (AreRows 1 (r.done ++ bytes ∷ [])) (sym longer) (rows_push 1 r.done rows bytes row r.read (e ∙ r.number_is) is);
    number_is = omega (arith, r.number_is, length-append r.done (bytes ∷ []));
  }

  -- there are no more lines than the script has
  pub few : (most : ℕ) → length (lines_of script) ≤ most → number ≤ most
  few most le = omega (arith, le, ap length r.whole, length-append r.done (lines_of ahead), ap length split, r.number_is)

  pub bad : (column : ℕ) → IsOutside SpellsLane bytes (line.At column) → IsBadAt (lines_of script) number column
  bad column o = record {
    before = r.done;
    rows = rows;
    bytes = bytes;
    rest = lines_of next;
    whole = sym (r.whole ∙ ap (λ l. r.done ++ l) split);
    read = r.read;
    number = r.number_is;
    outside = o;
  }

pub all_read : (script ahead : List ℕ) (rows : List Row) (number : ℕ) → Reading script ahead rows number → ahead ≡ [] → AreRows 1 (lines_of script) rows
all_read script ahead rows number r none = subst (λ l. AreRows 1 l rows) (sym (r.whole ∙ (ap (λ b. r.done ++ lines_of b) none ∙ append-nil r.done))) r.read

-- The calls of a lane: these are known, and these rows are left.

pub call_more : (lane : ℕ) (row : Row) (rest : List Row) (calls : List Call) (all : List Call) → (row.lane == lane) ≡ true → calls ++ calls_of lane (row ∷ rest) ≡ all → (calls ++ row.call ∷ []) ++ calls_of lane rest ≡ all
call_more lane row rest calls all is e = append_assoc calls (row.call ∷ []) (calls_of lane rest) ∙ (ap (λ l. calls ++ map (λ (r : Row). r.call) l) (sym (this_lane lane row rest is)) ∙ e)

pub call_other : (lane : ℕ) (row : Row) (rest : List Row) (calls : List Call) (all : List Call) → (row.lane == lane) ≡ false → calls ++ calls_of lane (row ∷ rest) ≡ all → calls ++ calls_of lane rest ≡ all
call_other lane row rest calls all is e = ap (λ l. calls ++ map (λ (r : Row). r.call) l) (sym (other_lane lane row rest is)) ∙ e
