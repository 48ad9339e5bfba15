-- What may be left out.
use Rattle.std.specs.Prelude.{◌≡◌, Bool, false, cond, List, [], ◌∷◌, Option, Some, None}
use Rattle.reader_laws.specs.Reading.{Reading, ◌>>=◌, first_is}
use Rattle.reader_laws.specs.Reading.Reading.{found}

-- where the first token passes p, what run reads
unfoldable pub optional : {T A : Type 0} → (T → Bool) → (List T → Reading T A) → List T
    → Reading T (Option A)
optional p run s = cond (first_is p s) (run s >>= λ x r. found (Some x) r) (found None s)
