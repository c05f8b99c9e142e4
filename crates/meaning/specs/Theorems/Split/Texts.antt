-- The texts that a script names lie in the pool, by Shape: over two pools with the same bytes a script names the same texts, whatever
-- stands behind the pools.
use Prim.Native.Nat.{ℕ, zero, suc, ◌+◌, ◌≤◌, ◌<◌}
use Rattle.std.specs.Prelude.{◌≡◌, Bool, true, false, List, ◌∷◌}
use Rattle.std.proofs.Math.Path.{refl, ap₂}
use Rattle.std.proofs.Common.{ap, arith, leb-true}
use Rattle.meaning.specs.Tests.{in_table}
use Rattle.meaning.specs.Sheet.{Sheet, queries_of, script_of, grove_of, sheet_of}
use Rattle.meaning.specs.Kinds.{query_form, query_at}
use Rattle.meaning.specs.Forest.{bytes_from, text_at}
use Rattle.meaning.specs.Shape.{word_ok, words_ok, query_uses, shapely}
use Rattle.meaning.specs.Laws.Bools.{and_left}
use Rattle.meaning.specs.Laws.Shaped.{cells, queries_say, queries_pass}
use Rattle.meaning.specs.Theorems.Split.Levels.{SameText}

module _ (byte byte' : ℕ → ℕ) (pool : ℕ) (agree : (i : ℕ) → i < pool → byte i ≡ byte' i) where
  same_bytes : (p q : ℕ) → p + q ≤ pool → bytes_from byte p q ≡ bytes_from byte' p q
  unfolding bytes_from
  same_bytes p zero l = refl
  same_bytes p (suc q) l = ap₂ (λ x y. x ∷ y) (agree p (omega arith)) (same_bytes (suc p) q (omega arith))

  text_same : (p q : ℕ) → p + q ≤ pool → text_at byte p q ≡ text_at byte' p q
  text_same p q l = ap (λ (b : List ℕ). record { offset = p; size = q; bytes = b }) (same_bytes p q l)

-- of the 13 kinds only text names one
row_same : (s : Sheet) (byte byte' : ℕ → ℕ) → ((i : ℕ) → i < s.grove.pool → byte i ≡ byte' i) → (i k p q r : ℕ)
    → words_ok s (query_uses (cells k p q r)) i (cells k p q r) ≡ true → SameText byte byte' (query_form (cells k p q r))
unfolding word_ok
row_same s byte byte' agree i zero p q r e = tt
row_same s byte byte' agree i (suc zero) p q r e = tt
row_same s byte byte' agree i (suc (suc zero)) p q r e = tt
row_same s byte byte' agree i (suc (suc (suc zero))) p q r e = tt
row_same s byte byte' agree i (suc (suc (suc (suc zero)))) p q r e = text_same byte byte' s.grove.pool agree p q
    (leb-true (p + q) s.grove.pool (search and_left))
row_same s byte byte' agree i (suc (suc (suc (suc (suc zero))))) p q r e = tt
row_same s byte byte' agree i (suc (suc (suc (suc (suc (suc zero)))))) p q r e = tt
row_same s byte byte' agree i (suc (suc (suc (suc (suc (suc (suc zero))))))) p q r e = tt
row_same s byte byte' agree i (suc (suc (suc (suc (suc (suc (suc (suc zero)))))))) p q r e = tt
row_same s byte byte' agree i (suc (suc (suc (suc (suc (suc (suc (suc (suc zero))))))))) p q r e = tt
row_same s byte byte' agree i (suc (suc (suc (suc (suc (suc (suc (suc (suc (suc zero)))))))))) p q r e = tt
row_same s byte byte' agree i (suc (suc (suc (suc (suc (suc (suc (suc (suc (suc (suc zero))))))))))) p q r e = tt
row_same s byte byte' agree i (suc (suc (suc (suc (suc (suc (suc (suc (suc (suc (suc (suc zero)))))))))))) p q r e = tt
row_same s byte byte' agree i (suc (suc (suc (suc (suc (suc (suc (suc (suc (suc (suc (suc (suc zero))))))))))))) p q r e = tt
row_same s byte byte' agree i (suc (suc (suc (suc (suc (suc (suc (suc (suc (suc (suc (suc (suc (suc k)))))))))))))) p q r e = tt

-- in a sheet that passes Shape
pub texts_same : (s : List ℕ) → shapely s ≡ true → (byte byte' : ℕ → ℕ) → ((i : ℕ) → i < (grove_of s).pool → byte i ≡ byte' i) → (i : ℕ)
    → SameText byte byte' (query_at (script_of s) i)
unfolding sheet_of script_of grove_of
texts_same s e byte byte' agree i = go (in_table (queries_of s) i) refl
  where
    go : (b : Bool) → in_table (queries_of s) i ≡ b → SameText byte byte' (query_at (script_of s) i)
    go true h = let c = (script_of s).query_row i in row_same (sheet_of s) byte byte' agree i c.kind c.p c.q c.r
        (queries_say (sheet_of s) i (queries_pass s e) h)
    go false h = rw h tt
