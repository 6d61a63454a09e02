-- What writing an answer form asks for and does: bytes put into the output, marks that are held with the network's base added, and rows of the table of
-- collected paths. The builder's last stage cites these; its promise does not.
use Rattle.std.specs.Prelude.{ℕ, ◌+◌, ◌*◌, ◌≤◌, ◌<◌, ◌≡◌, List, ◌++◌, ℤ, length, take, drop}
use Rattle.std.proofs.Math.IntN.{sub_ℕ}
use Rattle.mathematics.specs.Bound.{Marks}
use Rattle.forms.specs.Layout.{max_paths, max_path_length}
use Rattle.forms.specs.GraphForm.{vertex_count}
use Rattle.forms.specs.GraphReads.{HeaderRight}
use Rattle.forms.specs.AnswerForm.{path_header_length}
use Rattle.reads.specs.ReadTable.{row_length}
use Rattle.network.specs.Network.{nth, base, most_edges}
use Rattle.paths.specs.declared.collect.Paths.{Paths}
use Rattle.paths.specs.Peel.{path_at}

-- The bytes put at a place, and nothing else changed.
pub record Placed (before : List ℕ) (place : ℕ) (bytes after : List ℕ) : Type 0 where
  pub room : place + length bytes ≤ length before
  pub is : after ≡ take place before ++ (bytes ++ drop (place + length bytes) before)

-- the marks that are held with `base` added
abbrev pub held_marks : (ℕ → ℕ) → (ℕ → ℕ) → Marks ℤ
held_marks into out = record { into = λ v. sub_ℕ (into v) base; out = λ v. sub_ℕ (out v) base }

-- the marks of the graph's vertices, held so, can be written: none is above twice the base
pub record Writable (s into out : List ℕ) : Type 0 where
  pub header : HeaderRight s
  pub into_low : (v : ℕ) → v < vertex_count s → nth into v ≤ 2 * base
  pub out_low : (v : ℕ) → v < vertex_count s → nth out v ≤ 2 * base

-- no record of a path is longer, and no count records are
abbrev pub longest_record : List ℕ → ℕ
longest_record s = path_header_length s + max_path_length s

unfoldable pub longest_records : List ℕ → ℕ → ℕ
longest_records s count = longest_record s * count

-- the rows of a table of collected paths fit an answer form's fields
pub record PathsFit (s : List ℕ) (table : Paths) : Type 0 where
  pub header : HeaderRight s
  pub few : table.count ≤ max_paths s
  pub tall : length table.rows ≡ most_edges
  pub wide : (k : ℕ) → k < table.count → length (path_at table k).row ≡ row_length
  pub short : (k : ℕ) → k < table.count → (path_at table k).size ≤ max_path_length s
  pub light : (k : ℕ) → k < table.count → (path_at table k).weight < 4_294_967_296
