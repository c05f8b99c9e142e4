-- A row that says a label is of kind 4.
use Rattle.std.specs.Prelude.{ℕ, ◌≡◌}
use Rattle.meaning.specs.Sheet.{Cells}
use Rattle.meaning.specs.Kinds.{TypeRow, type_form}
use Rattle.meaning.specs.Laws.Apart.{View, v_none, v_empty, v_text, v_bool, v_label, v_seq, v_choice, v_star, v_name, view}

pub label_row : {d c : Cells} → d ≡ c → {l q : ℕ} → TypeRow.label l q ≡ type_form d → (c.kind ≡ 4) × (q ≡ c.q)
label_row {d} {c} same {l} {q} e = rw same at (go (view d) e)
  where
    go : {t : TypeRow} → View d t → TypeRow.label l q ≡ t → (d.kind ≡ 4) × (q ≡ d.q)
    go v_none e = cc
    go v_empty e = cc
    go (v_text k) e = cc
    go (v_bool k) e = cc
    go (v_label k) e = (k, cc)
    go (v_seq k) e = cc
    go (v_choice k) e = cc
    go (v_star k) e = cc
    go (v_name k) e = cc
