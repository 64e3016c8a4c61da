-- What a list of fields holds.
use Rattle.std.specs.Prelude.{ℕ, Bool, List, [], ◌∷◌, ◌++◌, length, drop, ◌==◌}
use Rattle.arrayvec.specs.ArrayVec.{array_vec_len}
use Rattle.records.specs.Laid.{start_of, first_fields}
use Rattle.records.specs.declared.field_list.FieldList.{FieldList}

-- the fields that are complete: each but the last
abbrev pub complete : FieldList → List (List ℕ)
complete l = first_fields l.bytes.items l.ends.items (array_vec_len l.ends)

-- the last field
abbrev pub current : FieldList → List ℕ
current l = drop (start_of l.ends.items (array_vec_len l.ends)) l.bytes.items

-- all the fields
abbrev pub fields_of : FieldList → List (List ℕ)
fields_of l = complete l ++ (current l ∷ [])

-- whether there is no byte
abbrev pub is_empty : List ℕ → Bool
is_empty bs = length bs == 0
