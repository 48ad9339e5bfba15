-- Paths part by part.
use Rattle.std.proofs.Common.{◌≡◌, refl, sym, ◌∙◌, ap, ℕ, ◌+◌, ◌<◌, List, [], ◌∷◌, ◌++◌, length, get_or, take, drop}
use Rattle.std.proofs.lemmas.List.{drop_more, take_more, take-append-drop}
use Rattle.smv_parser.specs.declared.expressions.PathPart.{PathPart, Field, Index'}
use Rattle.smv_instances.specs.Program.{Path}
use Rattle.smv_names.specs.Written.{extended, followed}

pub followed_more : (q : Path) (parts : List PathPart) (part : PathPart) (rest : List PathPart) → followed q (parts ++ part ∷ rest) ≡ followed (extended (followed q parts) part) rest
followed_more q [] (Field name) rest = refl
followed_more q [] (Index' kind line) rest = refl
followed_more q (Field name ∷ parts) part rest = followed_more (Path.Field q name) parts part rest
followed_more q (Index' kind line ∷ parts) part rest = followed_more (extended q (Index' kind line)) parts part rest

pub split_at : {X : Type 0} (xs : List X) (k : ℕ) (x : X) → k < length xs → x ≡ get_or xs k x → take k xs ++ (x ∷ drop (k + 1) xs) ≡ xs
split_at xs k x h is = ap (λ z. take k xs ++ (z ∷ drop (k + 1) xs)) is ∙ ap (λ z. take k xs ++ z) (sym (drop_more xs k x h)) ∙ take-append-drop k xs

pub followed_next : (q : Path) (parts : List PathPart) (k : ℕ) (part : PathPart) → k < length parts → part ≡ get_or parts k part → followed q (take (k + 1) parts) ≡ extended (followed q (take k parts)) part
followed_next q parts k part h is = ap (λ z. followed q z) (take_more parts k part h ∙ ap (λ z. take k parts ++ z ∷ []) (sym is)) ∙ followed_more q (take k parts) part []
