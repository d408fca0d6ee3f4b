-- The ending of a run at files worked by hand: a program of two bricks, and points of it.
use Rattle.std.specs.Prelude.{ℕ, List, [], ◌∷◌, ◌++◌, codes, refl}
use Rattle.std.specs.Fmt.{digits}
use Rattle.fold_shelf.specs.Outside.{File, without}
use Rattle.nfold_cli.specs.declared.status.Status.TheVariants as status
use Rattle.nfold_cli.specs.Texts.{usage_text}
use Rattle.nfold_cli.specs.Words.{Word}
use Rattle.nfold_cli.specs.Endings.{ending}
use Rattle.nfold_cli.specs.Forms.{IsEnding}

abbrev file_of : List ℕ → List ℕ → File
file_of name bytes = record { name = name; bytes = bytes }

abbrev files_with : List ℕ → List ℕ → List File
files_with upper point =
    file_of (codes "t.link.mat") (codes "1 2 1 0")
    ∷ file_of (codes "t.brick.mat") (codes "1 2 1 1")
    ∷ file_of (codes "t.lb") (codes "2 2 0 0 0 0")
    ∷ file_of (codes "t.ub") upper
    ∷ file_of (codes "t.rhs") (codes "1 3 3 4 4")
    ∷ file_of (codes "t.cost") (codes "2 2 q 1 0 0 q 0 0 0 q 1 0 0 q 0 0 0")
    ∷ file_of (codes "t.pt") point
    ∷ []

abbrev files_at : List ℕ → List File
files_at = files_with (codes "2 2 4 4 4 4")

abbrev point_t : List Word
point_t = codes "point" ∷ codes "t" ∷ []

abbrev check_t : List Word
check_t = codes "check" ∷ codes "t" ∷ []

abbrev with_relations : List Word → List Word
with_relations words = words ++ codes "--rel" ∷ []

pub feasible : IsEnding point_t (files_at (codes "2 2 1 3 2 2")) (ending status.Done (codes "feasible\ncost 5\n"))
unfolding digits
feasible = refl

pub brick_row : IsEnding point_t (files_at (codes "2 2 1 3 2 1")) (ending status.No (codes "broken brick 2 row 1\n"))
unfolding digits
brick_row = refl

pub link_row : IsEnding point_t (files_at (codes "2 2 0 4 2 2")) (ending status.No (codes "broken link row 1\n"))
unfolding digits
link_row = refl

pub above : IsEnding point_t (files_at (codes "2 2 5 -1 2 2"))
    (ending status.No (codes "broken above brick 1 column 1\n"))
unfolding digits
above = refl

pub crossed : IsEnding point_t (files_with (codes "2 2 4 4 -1 4") [])
    (ending status.Input (codes "input: t.ub: crossed at brick 2 column 1\n"))
unfolding digits
crossed = refl

pub no_costs : IsEnding point_t (without (files_at []) (codes "t.cost"))
    (ending status.ReadFault (codes "read: t.cost\n"))
no_costs = refl

-- ---- with a file of relations

abbrev related : List ℕ → List ℕ → List File
related relations point = file_of (codes "t.rel") relations ∷ files_at point

pub at_most : IsEnding (with_relations point_t) (related (codes "1 1 <") (codes "2 2 0 4 2 2"))
    (ending status.Done (codes "feasible\ncost 4\n"))
unfolding digits
at_most = refl

pub at_least : IsEnding (with_relations point_t) (related (codes "1 1 >") (codes "2 2 0 4 2 2"))
    (ending status.No (codes "broken link row 1\n"))
unfolding digits
at_least = refl

pub not_asked_for : IsEnding point_t (related (codes "1 1 <") (codes "2 2 0 4 2 2"))
    (ending status.No (codes "broken link row 1\n"))
unfolding digits
not_asked_for = refl

pub no_such_relation : IsEnding (with_relations point_t) (related (codes "1 1\n~") [])
    (ending status.Input (codes "input: t.rel: syntax at 4\n"))
unfolding digits
no_such_relation = refl

pub no_relations : IsEnding (with_relations point_t) (files_at []) (ending status.ReadFault (codes "read: t.rel\n"))
no_relations = refl

pub empty_point : IsEnding point_t (files_at []) (ending status.Input (codes "input: t.pt: ends-early at 0\n"))
unfolding digits
empty_point = refl

-- ---- the claim that the first brick cannot meet its row

-- the files where that brick's right side is 9, and the certificate's claim and point are these
abbrev claimed_at : List ℕ → List ℕ → List File
claimed_at claim point =
    file_of (codes "t.link.mat") (codes "1 2 1 0")
    ∷ file_of (codes "t.brick.mat") (codes "1 2 1 1")
    ∷ file_of (codes "t.lb") (codes "2 2 0 0 0 0")
    ∷ file_of (codes "t.ub") (codes "2 2 4 4 4 4")
    ∷ file_of (codes "t.rhs") (codes "1 3 3 9 4")
    ∷ file_of (codes "t.cost") (codes "2 2 q 1 0 0 q 0 0 0 q 1 0 0 q 0 0 0")
    ∷ file_of (codes "t.cert") (codes "nfold-certificate 1 claim " ++ claim ++ codes " point 1 2 " ++ point ++ codes
    " bricks 3 3 0 1 1 1 -1 0 1 0 1 end")
    ∷ []

pub shown : IsEnding check_t (claimed_at (codes "infeasible-brick 1") (codes "4 4"))
    (ending status.Done (codes "yes infeasible brick 1 residual 1\n"))
unfolding digits
shown = refl

pub a_step_helps : IsEnding check_t (claimed_at (codes "infeasible-brick 1") (codes "4 3"))
    (ending status.No (codes "no B2\n"))
unfolding digits
a_step_helps = refl

pub no_such_claim : IsEnding check_t (claimed_at (codes "infeasible") (codes "4 4"))
    (ending status.Input (codes "input: t.cert: word at 26\n"))
unfolding digits
no_such_claim = refl

pub no_certificate : IsEnding check_t (files_at []) (ending status.ReadFault (codes "read: t.cert\n"))
no_certificate = refl

-- words that are no form end in the usage, whatever the files are
pub no_words : (files : List File) → IsEnding [] files (ending status.Usage usage_text)
no_words files = refl
