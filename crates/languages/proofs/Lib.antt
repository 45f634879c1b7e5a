pub mod CommentLists
