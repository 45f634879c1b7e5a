mod PlainTrees
