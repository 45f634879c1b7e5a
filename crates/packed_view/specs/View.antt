-- A packed file as a file.
use Rattle.node_tree.specs.declared.view.FileView.{FileView}
use Rattle.packed_view.specs.declared.view.PackedView.TheInside.{Inside}

abbrev pub file_of : Inside → FileView
file_of p = record {
  lang = p.lang;
  bytes = p.text.value;
  tree = p.tree;
  known = p.known;
  utf8 = p.utf8;
  small = p.small;
  placed = p.placed;
  names = p.names;
  in_order = p.in_order;
}
