-- What stays of a node under longer histories.
use Rattle.std.proofs.Common.{◌≡◌, ℕ, ◌<◌, ◌≤◌, List, [], ◌∷◌, ◌++◌, length, get_or, refl, ap}
use Rattle.std.proofs.Common.{sym, ◌∙◌, arith, length-append, append-nil}
use Rattle.std.specs.Prelude.{reverse}
use Rattle.std.proofs.lemmas.List.{reverse-append, get_or_append_left}
use Rattle.bl_problem.specs.Program.{Program}
use Rattle.bl_journal.specs.declared.entry.Entry.{Entry}
use Rattle.bl_journal.specs.declared.entry.Entry.TheVariants.{Take, Put, Back, Encode, Free}
use Rattle.bl_journal.specs.declared.entry.Step.TheVariants.{Shut, Split}
use Rattle.bl_journal.specs.Births.{Node, nodes_of, node_at, grown, root_node}
use Rattle.bl_journal.specs.Descriptions.{full_of, full_along}

-- read backward, the last entry comes first
pub reverse-push : (history : List Entry) (e : Entry) → reverse (history ++ e ∷ []) ≡ e
    ∷ reverse history
reverse-push history e = reverse-append history (e ∷ [])

-- nodes are added at the end
pub grown-extends : (p : Program) (nodes : List Node) (e : Entry) → (new : List Node)
    × (grown p nodes e ≡ nodes ++ new)
grown-extends p nodes (Put seat id found low Shut) = ([], sym (append-nil nodes))
grown-extends p nodes (Put seat id found low (Split common column at)) = (_, refl)
grown-extends p nodes (Take seat id) = ([], sym (append-nil nodes))
grown-extends p nodes (Back seat id) = ([], sym (append-nil nodes))
grown-extends p nodes (Encode seat id form) = ([], sym (append-nil nodes))
grown-extends p nodes (Free seat ids) = ([], sym (append-nil nodes))

pub length-grown : (p : Program) (nodes : List Node) (e : Entry) → length nodes
    ≤ length (grown p nodes e)
length-grown p nodes e =
    let g = grown-extends p nodes e in
    rw g.1 (omega (arith, length-append nodes g.0))

pub length-nodes_more : (p : Program) (more past : List Entry) → length (nodes_of p past)
    ≤ length (nodes_of p (more ++ past))
length-nodes_more p [] past = omega arith
length-nodes_more p (e ∷ more) past =
    let h : length (nodes_of p past) ≤ length (nodes_of p (more ++ past)) =
    length-nodes_more p more past in
    let g : length (nodes_of p (more ++ past)) ≤ length (grown p (nodes_of p (more ++ past)) e) =
    length-grown p (nodes_of p (more ++ past)) e in
    omega arith

pub get_or-grown : (p : Program) (nodes : List Node) (e : Entry) (d : Node) (id : ℕ) → id
    < length nodes → get_or (grown p nodes e) id d ≡ get_or nodes id d
get_or-grown p nodes e d id born =
    let g = grown-extends p nodes e in
    rw g.1 (get_or_append_left nodes g.0 d id born)

-- a node that is born keeps its place when more entries come
pub node_at-more : (p : Program) (more past : List Entry) (id : ℕ) → id < length (nodes_of p past)
    → node_at p (more ++ past) id ≡ node_at p past id
node_at-more p [] past id born = refl
node_at-more p (e ∷ more) past id born =
    let h : length (nodes_of p past) ≤ length (nodes_of p (more ++ past)) =
    length-nodes_more p more past in
    get_or-grown p (nodes_of p (more ++ past)) e (root_node p) id (omega arith)
    ∙ node_at-more p more past id born

pub node_at-later : (p : Program) (history rest : List Entry) (id : ℕ) → id
    < length (nodes_of p (reverse history))
    → node_at p (reverse (history ++ rest)) id ≡ node_at p (reverse history) id
node_at-later p history rest id born =
    rw (reverse-append history rest) (node_at-more p (reverse rest) (reverse history) id born)

pub full-later : (p : Program) (history rest : List Entry) (id : ℕ) → id
    < length (nodes_of p (reverse history))
    → full_of p (reverse (history ++ rest)) id ≡ full_of p (reverse history) id
full-later p history rest id born =
    ap (λ n. full_along p n.path) (node_at-later p history rest id born)
