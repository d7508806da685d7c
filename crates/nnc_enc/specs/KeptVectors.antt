use Rattle.std.specs.Prelude.{◌≡◌, ◌⊎◌, ◌↔◌, ℕ, ◌+◌, ◌<◌, Bool, false, List, length, ℤ, pos, ◌<ℤ◌}
use Rattle.row_core.specs.Vectors.{cell}
use Rattle.row_core.specs.Lists.{Row, vectors}
use Rattle.cone_laws.specs.Members.{ConeOf}
use Rattle.cone_laws.specs.Canon.{vector_at, IsSystem}
use Rattle.gens_sys.specs.Generators.{Generators}
use Rattle.gens_sys.specs.Spans.{Span}
use Rattle.nnc_enc.specs.Encoding.{HaveWidth, Codes, IsEncoded}
use Rattle.nnc_enc.specs.StrongRows.{kept_at, IsSpareVector}
use Rattle.nnc_enc.specs.DecodedVectors.{Decodes}
use Rattle.nnc_enc.specs.Strong.{HasStrictRow}
use Rattle.nnc_enc.specs.Decoding.{AreGeneratorsOf, AreKept}

-- generators of what is kept without a vector that is 0 in column e, and a direction or 0 on a
-- strict row, don't span all that the cone codes
abbrev pub LevelVectorsAreNeeded : Type 0
LevelVectorsAreNeeded = (dim : ℕ) (rows : List Row) (lines rays : List (List ℤ))
    (keep : ℕ → Bool) (kept : Generators) (point : List ℤ) (i : ℕ) → HaveWidth (dim + 2) rows
    → IsSystem (ConeOf (dim + 2) rows) lines rays → IsEncoded dim (ConeOf (dim + 2) rows)
    → ConeOf (dim + 2) rows point → pos 0 <ℤ cell point dim → i < length rays
    → cell (vector_at rays i) dim ≡ pos 0
    → (cell (vector_at rays i) (dim + 1) ≡ pos 0) ⊎ HasStrictRow dim rows (vector_at rays i)
    → keep i ≡ false → Decodes dim lines rays keep kept.list
    → ¬ ((v : List ℤ) → length v ≡ dim + 1 → Codes dim (ConeOf (dim + 2) rows) v → Span kept v)

-- the generators of what is kept span exactly the points that the cone codes
abbrev pub KeptGeneratorsCode : Type 0
KeptGeneratorsCode = (dim : ℕ) (rows lines rays : List Row) (keep : List Bool) (order : List ℕ)
    (gs : Generators) (point v : List ℤ) → HaveWidth (dim + 2) rows
    → IsSystem (ConeOf (dim + 2) rows) (vectors lines) (vectors rays)
    → IsEncoded dim (ConeOf (dim + 2) rows) → ConeOf (dim + 2) rows point → pos 0 <ℤ cell point dim
    → ((i : ℕ) → i < length (vectors rays) → kept_at keep i ≡ false
    → IsSpareVector dim rows (vectors rays) keep i)
    → AreKept keep order (length rays) → AreGeneratorsOf dim lines rays order gs.list
    → length v ≡ dim + 1 → Span gs v ↔ Codes dim (ConeOf (dim + 2) rows) v

-- what a list of decoded generators is in the words of the laws
abbrev pub ListedDecodes : Type 0
ListedDecodes =
    (dim : ℕ) (lines rays : List Row) (keep : List Bool) (order : List ℕ) (gs : Generators)
    → AreKept keep order (length rays) → AreGeneratorsOf dim lines rays order gs.list
    → Decodes dim (vectors lines) (vectors rays) (kept_at keep) gs.list
